pub mod Steps
pub mod Items
pub mod Taking
pub mod Ahead
pub mod Listing
pub mod Went
pub mod Turns
