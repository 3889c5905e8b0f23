-- The laws of logs and of join.
pub mod Logs
pub mod Merging
pub mod Refusals
pub mod Writing
pub mod Joining
pub mod Examples
