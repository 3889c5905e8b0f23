-- How contracts stand in bytes and are read: document 01, "Records" and refusals 1 to 7.
pub mod Limits
pub mod Table
pub mod Kinds
pub mod Trees
pub mod Spelling
pub mod Reader
pub mod Taken
pub mod Examples
