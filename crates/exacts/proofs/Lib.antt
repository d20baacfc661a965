mod Rows
mod Exact
mod Exacts
mod Becoming
mod Owns
mod Adding
mod Headers
mod Writing
