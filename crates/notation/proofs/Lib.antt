pub mod Refusal
pub mod Values
