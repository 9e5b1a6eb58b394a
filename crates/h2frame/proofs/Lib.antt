pub mod Heads
pub mod Payloads
pub mod Fronts
pub mod OneReading
pub mod Lists
pub mod Steps
pub mod Existence
pub mod Rooms
