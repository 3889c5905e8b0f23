-- The laws of the definitions in specs/, module by module.
pub mod Expressions
pub mod Readings
pub mod Stretches
pub mod Joint
pub mod Windows
pub mod Meaning
pub mod Repeats
pub mod Verdicts
pub mod Examples
