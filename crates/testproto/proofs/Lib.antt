pub mod Joining
pub mod Faults
pub mod Writing
