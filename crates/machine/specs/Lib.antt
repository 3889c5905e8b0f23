-- Document 01's "Image and row machine", the row machine.
pub mod Machine
pub mod Premises
pub mod Computing
pub mod Examples
