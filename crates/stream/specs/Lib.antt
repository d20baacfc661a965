pub mod Stream
pub mod Tail
pub mod Promises
pub mod Steps
pub mod Table
