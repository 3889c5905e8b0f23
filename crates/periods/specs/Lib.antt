-- Document 01, "Records", and document 02, "Thirty-two actions": parties, the period record in its forms, and traces of them with refusal 11.
pub mod Limits
pub mod Forms
pub mod Periods
pub mod Traces
pub mod Making
pub mod SameAttempts
pub mod Computing
pub mod Examples
