pub mod Cells
mod Owned
pub mod Searches
mod Groups
pub mod Found
pub mod Zeros
