mod Feeding
mod Seats
mod Copied
mod Consumed
mod Offered
mod Once
