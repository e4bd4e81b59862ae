pub mod Outcomes
pub mod Submits
