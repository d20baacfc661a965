pub mod Letters
pub mod Behind
mod Nesting
mod Rows
mod Entries
pub mod Filling
pub mod Table
