pub mod Opened
pub mod Turns
