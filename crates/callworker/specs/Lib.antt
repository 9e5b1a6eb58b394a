pub mod Runs
pub mod Works
pub mod Leaving
