pub mod Checksum
pub mod Fields
pub mod Format
pub mod Conversations
pub mod Writing
pub mod Reading
