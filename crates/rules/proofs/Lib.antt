pub mod Mask
mod Ownable
pub mod First
pub mod Fewer
pub mod Any
pub mod Waits
pub mod Replies
pub mod Expiry
pub mod View
pub mod SeenJudge
pub mod Seen
pub mod Series
pub mod Shows
pub mod Bench
mod Numbers
