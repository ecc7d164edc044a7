pub mod Injections
pub mod Drawn
pub mod Owed
pub mod After
pub mod Round
