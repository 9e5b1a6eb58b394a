pub mod Fronts
pub mod Readings
pub mod Extents
pub mod Tails
pub mod Joins
pub mod OneMessage
pub mod Padded
pub mod WholeMessages
