pub mod Numbers
pub mod RoundTrip
pub mod Demands
pub mod Exported
pub mod Refusals
