pub mod Fixed
pub mod Complete
pub mod Sound
pub mod Points
pub mod Declared
pub mod Theorems
pub mod SignRows
mod Examples
