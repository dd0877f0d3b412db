pub mod Codes
pub mod Decoding
pub mod Blocks
mod Readers
pub mod WholeText
