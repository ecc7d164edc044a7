pub mod Keys
pub mod Frames
pub mod Following
pub mod Scanned
pub mod Passes
