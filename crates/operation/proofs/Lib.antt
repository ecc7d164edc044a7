pub mod Numbers
pub mod Tests
pub mod Tables
pub mod Sizes
pub mod Remote
pub mod Edges
