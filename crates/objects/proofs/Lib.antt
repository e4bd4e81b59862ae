pub mod Searches
pub mod Written
