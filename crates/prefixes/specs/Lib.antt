pub mod Names
pub mod Copies
pub mod Converted
pub mod Table
