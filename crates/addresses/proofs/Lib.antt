mod Unique
mod Addresses
