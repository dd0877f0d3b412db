pub mod Filling
pub mod Buffers
