pub mod Letters
pub mod Types
pub mod Promises
pub mod Nest
pub mod Table
