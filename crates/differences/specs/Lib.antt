pub mod Differences
pub mod Comparisons
pub mod DifferenceCases
