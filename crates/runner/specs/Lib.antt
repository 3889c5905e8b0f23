-- What step's and run's program computes with.
pub mod Answers
