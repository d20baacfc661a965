mod Tests
mod Calls
mod Ticks
