pub mod LogDemands
pub mod ReplayedRuns
pub mod Replays
pub mod TableStatus
