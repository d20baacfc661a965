pub mod Names
pub mod Precedence
pub mod Subjects
pub mod Matching
pub mod Decisions
pub mod Table
