pub mod Accepted
pub mod CasesOnRecords
pub mod OnRecords
pub mod Refused
pub mod Rules
pub mod SoundFacts
