-- The laws of the code's loop.
pub mod Loop
