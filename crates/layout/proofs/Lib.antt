-- The laws of rows and images.
pub mod Rows
pub mod Images
pub mod ImageBytes
pub mod Examples
