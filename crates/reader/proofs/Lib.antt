-- The laws of what the program computes with: the codes of operands, the stack.
pub mod Codes
pub mod Pending
