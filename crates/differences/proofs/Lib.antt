-- What the proofs of several functions cite, and the differences that are written out.
pub mod DifferenceCases
pub mod DifferingPlaces
pub mod Entries
pub mod Storing
