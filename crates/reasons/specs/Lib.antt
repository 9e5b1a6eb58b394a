pub mod Codes
pub mod Texts
pub mod Examples
