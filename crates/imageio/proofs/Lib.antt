-- What the proofs of several functions cite, and the lines that are written out.
pub mod Digits
pub mod Lines
pub mod PrintedCases
