pub mod Proposal
pub mod Circle
pub mod Outcome
pub mod Scratch
