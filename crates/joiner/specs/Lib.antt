-- Document 02's "Join the two parties' logs": logs, the trace joined of two, the call and the order of its tests.
pub mod Limits
pub mod Logs
pub mod Joined
pub mod Refusals
pub mod Calls
pub mod Joining
pub mod Merging
pub mod Examples
