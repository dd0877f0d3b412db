pub mod Parts
pub mod Numbers
pub mod Hexadecimal
pub mod Records
pub mod Lines
pub mod Examples
