pub mod InQueue
pub mod LeastFolds
pub mod MaskFolds
pub mod TaskHead
