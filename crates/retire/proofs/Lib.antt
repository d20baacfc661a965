mod Covered
pub mod Counting
mod Gathering
mod Deciding
