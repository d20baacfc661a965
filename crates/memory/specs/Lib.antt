pub mod Layout
pub mod Encoding
pub mod Places
pub mod Good
pub mod Sound
pub mod Calls
pub mod Bench
