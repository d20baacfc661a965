pub mod Numbers
pub mod Rooms
pub mod Told
