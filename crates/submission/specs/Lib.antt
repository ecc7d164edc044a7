pub mod Effects
pub mod Counting
pub mod Carrying
pub mod Checked
