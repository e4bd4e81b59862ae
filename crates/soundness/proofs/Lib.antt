pub mod Cases
pub mod EachRecord
pub mod Orders
pub mod Ranks
pub mod RecordTests
pub mod Searched
pub mod Whole
