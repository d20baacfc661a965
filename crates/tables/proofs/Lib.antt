pub mod Words
pub mod Cells
pub mod Sweep
pub mod Table
pub mod Same
pub mod Count
pub mod Change
pub mod Written
mod Cutting
mod Row
