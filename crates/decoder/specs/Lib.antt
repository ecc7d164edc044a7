pub mod Front
pub mod Reading
pub mod Stream
