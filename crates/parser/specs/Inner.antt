-- Inner work: what only proofs and inner functions cite.
pub mod Codes
pub mod Blocks
pub mod Questions
