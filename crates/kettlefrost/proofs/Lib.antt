pub mod Answered
pub mod Tables
