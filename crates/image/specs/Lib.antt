pub mod Image
pub mod Rules
pub mod Good
pub mod Promises
pub mod Table
