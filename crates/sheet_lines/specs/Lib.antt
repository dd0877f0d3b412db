pub mod Fields
pub mod Sheet
pub mod Pieces
pub mod Inner
