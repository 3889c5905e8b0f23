-- The image of a contract, and what it means for an image to monitor a contract. Document 01, "Image and row machine" and "Calls".
pub mod Limits
pub mod Widths
pub mod Blocks
pub mod Images
pub mod Rightness
pub mod Monitors
pub mod Examples
