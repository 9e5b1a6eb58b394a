pub mod Cutting
pub mod Contents
pub mod Lines
