pub mod Lists
pub mod Letters
pub mod Relation
pub mod Order
pub mod Places
pub mod Skip
pub mod Listing
pub mod Examples
