pub mod Record
pub mod Entry
pub mod Held
pub mod Questions
pub mod Inner
