pub mod Unions
pub mod Kept
pub mod Asked
