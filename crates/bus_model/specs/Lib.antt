pub mod Primitives
pub mod Submit
pub mod Round
pub mod Calls
pub mod Refines
pub mod Session
