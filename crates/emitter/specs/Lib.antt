-- What the program that writes rows computes with.
pub mod Rows
pub mod Plans
pub mod Blocks
pub mod Premises
