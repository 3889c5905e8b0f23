-- Why the code writes the image of a contract; the laws of compile.
pub mod Whole
pub mod Refusals
pub mod Calls
pub mod Examples
