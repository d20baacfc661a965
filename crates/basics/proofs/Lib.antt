mod Rounding
pub mod Places
