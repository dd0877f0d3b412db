pub mod Same
pub mod Passing
