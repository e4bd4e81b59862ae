pub mod Lists
pub mod Position
pub mod Steps
pub mod Table
