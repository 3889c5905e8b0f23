-- The laws of the tests and of the calls.
pub mod Refusals
pub mod Reading
pub mod Calls
pub mod StepCalls
pub mod Runs
pub mod Stopping
pub mod SameAttempts
pub mod Examples
