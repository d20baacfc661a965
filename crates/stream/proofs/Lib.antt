pub mod Examples
pub mod Heads
pub mod Offers
pub mod Good
pub mod Pushes
mod Phases
pub mod Regions
mod Gives
mod Beginning
mod Onward
mod Tests
pub mod Once
