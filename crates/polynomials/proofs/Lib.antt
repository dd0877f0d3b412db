pub mod LookUp
pub mod Sums
pub mod Work
