pub mod Counting
pub mod Promises
