pub mod Registers
pub mod Numbers
pub mod Lanes
pub mod Endings
pub mod Workers
pub mod Accounts
pub mod Blocks
