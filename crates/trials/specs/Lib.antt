pub mod Tally
pub mod Times
pub mod Verdicts
