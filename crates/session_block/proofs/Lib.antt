pub mod Block
pub mod Histories
pub mod Examples
