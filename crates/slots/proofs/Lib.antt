pub mod Blocks
pub mod Contents
