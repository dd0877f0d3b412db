pub mod Walk
pub mod Loaded
