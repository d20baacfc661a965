mod Found
mod Names
mod Calls
mod Shape
mod Plain
mod Slots
