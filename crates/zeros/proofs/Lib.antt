pub mod Tails
pub mod Wiped
