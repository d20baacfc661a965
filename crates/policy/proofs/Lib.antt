pub mod Table
pub mod Decides
pub mod Deciders
pub mod WithoutInterface
pub mod Precedence
pub mod Blocks
pub mod Cells
