pub mod Work
pub mod Calls
