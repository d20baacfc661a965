mod Serial
pub mod Slots
pub mod Names
pub mod Pending
pub mod Kept
pub mod Put
pub mod Renew
pub mod Judged
pub mod Keep
pub mod Numbers
pub mod Octets
pub mod Answers
pub mod Pieces
pub mod Refusals
pub mod Goodness
