pub mod Symbols
pub mod Grammar
pub mod Meaning
pub mod Reader
pub mod Text
pub mod SignRows
