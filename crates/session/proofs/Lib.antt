pub mod Asked
pub mod Outcomes
pub mod Joined
pub mod Tables
pub mod Steps
pub mod History
pub mod Examples
