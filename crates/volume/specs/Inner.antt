-- Inner work: what only proofs and inner functions cite.
pub mod Before
