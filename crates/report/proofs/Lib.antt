-- Laws of the definitions in `specs/`, under their names.
pub mod Texts
pub mod Split
pub mod Following
pub mod Reports
pub mod Examples
