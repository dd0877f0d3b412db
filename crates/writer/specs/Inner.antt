-- Inner work: what only proofs and inner functions cite.
pub mod Steps
pub mod Headed
pub mod Passed
