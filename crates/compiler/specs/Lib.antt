-- Compile. Document 01, "Calls" and "Replies that refuse".
pub mod Refusals
pub mod Calls
pub mod Examples
