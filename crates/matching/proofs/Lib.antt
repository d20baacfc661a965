mod Subjects
pub mod Fits
mod Names
