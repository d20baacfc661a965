pub mod Needs
pub mod From
pub mod Tests
pub mod Texts
pub mod Below
pub mod Parts
pub mod Words
pub mod Longs
mod Runs
pub mod Ranges
pub mod Blocks
mod Loads
