pub mod Winner
pub mod Scan
