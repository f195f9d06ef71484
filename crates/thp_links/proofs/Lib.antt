pub mod Members
pub mod Replacing
pub mod Segments
pub mod OneTable
pub mod Reserving
mod QueueSteps
mod ChainSteps
