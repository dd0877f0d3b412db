pub mod Letters
pub mod Polynomial
pub mod Lists
pub mod Join
pub mod Derivative
pub mod Table
pub mod Length
