-- Document 01's "Image and row machine", the image: rows, their bytes, the end record, refusal 9.
pub mod Limits
pub mod Rows
pub mod Fields
pub mod Images
pub mod Refusals
pub mod Examples
