mod Calls
pub mod Waits
