-- What decide's program computes with.
pub mod Decisions
