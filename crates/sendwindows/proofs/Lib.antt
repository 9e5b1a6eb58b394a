pub mod Balances
pub mod WindowSteps
