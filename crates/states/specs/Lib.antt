-- Document 01's "Image and row machine", states: their bytes, which are sound, the verdicts that they show, refusals 10 and 12.
pub mod Limits
pub mod States
pub mod Verdicts
pub mod Refusals
pub mod Premises
pub mod Examples
