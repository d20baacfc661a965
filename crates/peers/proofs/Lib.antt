mod Newcomers
mod Entering
mod Leaving
