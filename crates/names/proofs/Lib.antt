mod Bits
mod Told
pub mod Lookup
mod Follow
mod Near
mod Runs
mod Walk
mod Scanned
mod Several
mod Forms
mod Namespace
pub mod Table
