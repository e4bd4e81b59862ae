pub mod CallLog
pub mod LogCases
pub mod Operations
pub mod Reader
