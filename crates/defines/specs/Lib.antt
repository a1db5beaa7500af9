pub mod Pddl
pub mod Outcome
pub mod Parts
pub mod ByWords
