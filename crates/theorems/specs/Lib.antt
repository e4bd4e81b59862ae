pub mod CasesHold
pub mod Demands
pub mod Noninterference
pub mod QueueLists
pub mod SoundTables
