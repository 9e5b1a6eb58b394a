pub mod Cuts
pub mod Contents
pub mod Lines
pub mod Sides
