pub mod AnyOrder
pub mod Beyond
pub mod Stages
pub mod Slots
pub mod States
pub mod Lengths
pub mod OneWord
