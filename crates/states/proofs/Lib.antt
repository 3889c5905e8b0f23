-- The laws of states.
pub mod Values
pub mod Soundness
pub mod States
pub mod Refusals
pub mod Fresh
pub mod Examples
