pub mod Lending
pub mod Rounds
