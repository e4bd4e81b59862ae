pub mod StepRecords
pub mod Ticks
