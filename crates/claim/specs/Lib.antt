-- What a host may rely on: the page to check the claim by.
pub mod Claim
