pub mod Table
pub mod Entries
pub mod Words
pub mod Called
pub mod Going
