-- That it follows from compile's contract.
pub mod Claim
