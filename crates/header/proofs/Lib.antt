pub mod Examples
pub mod Front
pub mod Walk
pub mod Readings
