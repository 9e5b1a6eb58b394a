pub mod Faults
pub mod Frames
pub mod Methods
pub mod Names
pub mod Report
pub mod ResponseFields
pub mod Responses
pub mod Windows
