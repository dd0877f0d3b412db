pub mod Fields
pub mod Pieces
pub mod Refusals
pub mod Feeding
pub mod Entries
pub mod Examples
pub mod Sample
