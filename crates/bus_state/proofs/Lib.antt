pub mod Tests
pub mod Validity
pub mod Arrays
