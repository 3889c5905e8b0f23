-- Document 01, "Records": what stands in bytes; the verdicts; "Replies that refuse": the faults, replies and what a call leaves.
pub mod Fields
pub mod Marks
pub mod Verdicts
pub mod Refusals
pub mod Replies
pub mod Holding
pub mod Examples
