mod Ways
pub mod Holds
pub mod RuleHolds
pub mod Answers
mod Prefixes
pub mod Bench
mod Every
