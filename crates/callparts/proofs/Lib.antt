pub mod Fronts
pub mod Entering
pub mod InBlocks
