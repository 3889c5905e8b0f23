-- The laws of fields, of written bytes, of marks, verdicts, searches, refusals and replies.
pub mod Cases
pub mod Fields
pub mod Written
pub mod Bytes
pub mod Marks
pub mod Verdicts
pub mod Searches
pub mod Refusals
pub mod Replies
pub mod Examples
