pub mod Number
pub mod Format
pub mod Rules
pub mod Kinds
pub mod Tables
pub mod Edges
