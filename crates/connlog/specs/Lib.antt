pub mod Blocks
pub mod Methods
