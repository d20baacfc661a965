mod Owning
mod Releasing
