-- Document 01, "Watch": what is printed for an input.
pub mod Limits
pub mod Texts
pub mod Split
pub mod Reports
pub mod Putting
pub mod Examples
