-- What the reader's program computes with.
pub mod Codes
