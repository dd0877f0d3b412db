pub mod Tables
pub mod OnWords
pub mod Written
pub mod Handed
pub mod Calls
