pub mod Standing
pub mod OneRecord
pub mod Loops
pub mod Filling
pub mod Facts
pub mod Answers
