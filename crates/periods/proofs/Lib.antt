-- The laws of masks, forms and traces.
pub mod Forms
pub mod Periods
pub mod Recorded
pub mod Traces
pub mod First
pub mod Making
pub mod SameAttempts
pub mod Examples
