-- Inner work: what only proofs and inner functions cite.
pub mod Methods
pub mod Handed
pub mod Words
pub mod Passed
