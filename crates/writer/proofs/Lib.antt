pub mod Monomials
pub mod Entries
pub mod Parts
pub mod Asked
