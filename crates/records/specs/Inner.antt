-- Inner work: what only proofs and inner functions cite.
pub mod Kinds
pub mod Gathering
pub mod Headings
pub mod Filling
