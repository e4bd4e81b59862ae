pub mod Files
pub mod Printed
pub mod PrintedCases
pub mod Texts
