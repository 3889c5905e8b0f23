-- Document 01's "Calls": begin, step and run, and the order of their tests; document 02's decide.
pub mod Reading
pub mod Refusals
pub mod Calls
pub mod StepCalls
pub mod Stopping
pub mod Examples
