pub mod Laying
pub mod Numbers
pub mod Offsets
