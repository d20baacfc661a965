pub mod Script
pub mod Places
pub mod Steps
pub mod Table
