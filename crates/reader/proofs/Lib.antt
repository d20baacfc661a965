mod Numbers
mod Elements
mod Checks
mod Walking
mod Whole
