-- The laws of the definitions in specs/, module by module, for the crates above.
pub mod Table
pub mod Fields
pub mod Spelling
pub mod Nodes
pub mod Reader
pub mod WindowSum
pub mod Alike
pub mod Places
pub mod Answers
pub mod Examples
