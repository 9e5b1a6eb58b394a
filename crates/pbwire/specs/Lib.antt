pub mod Code
pub mod Varint
pub mod Fields
pub mod Spelling
pub mod Reading
