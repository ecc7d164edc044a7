pub mod Memory
pub mod Entries
pub mod Valid
pub mod Validity
pub mod Follows
