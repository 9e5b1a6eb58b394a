pub mod Faults
pub mod Messages
pub mod Reading
pub mod Examples
pub mod Splits
pub mod Writes
pub mod Fronts
pub mod Tails
