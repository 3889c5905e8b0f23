-- Document 01's contracts: "Expressions", "Meaning of clauses", "Contracts and examples".
pub mod Expressions
pub mod Readings
pub mod Meaning
pub mod Verdicts
pub mod Examples
