pub mod Left
pub mod Tested
pub mod Given
