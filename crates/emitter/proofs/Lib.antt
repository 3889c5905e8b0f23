-- Why the code writes the rows of a tree.
pub mod Writing
pub mod Plans
pub mod Tables
pub mod Operands
pub mod Periods
pub mod Emitting
pub mod Room
