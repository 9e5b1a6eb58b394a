pub mod Turns
pub mod Handing
