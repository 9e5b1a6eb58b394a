pub mod Accounts
pub mod Runs
pub mod Examples
pub mod SerialCalls
