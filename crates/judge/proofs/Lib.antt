mod Policy
mod Peers
mod Everybody
mod Whole
