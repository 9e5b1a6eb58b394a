pub mod Frames
pub mod Reactions
pub mod Verdicts
