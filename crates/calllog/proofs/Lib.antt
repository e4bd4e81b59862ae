pub mod Laws
pub mod LogCases
