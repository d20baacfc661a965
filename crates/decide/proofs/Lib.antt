mod Down
mod Rulings
