pub mod Names
pub mod Classes
pub mod Scan
pub mod Namespace
pub mod Table
