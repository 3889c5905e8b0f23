-- The laws of the row machine.
pub mod RowKinds
pub mod Machine
pub mod Computing
pub mod Deciding
pub mod Trimming
pub mod Steps
pub mod Taking
pub mod Examples
