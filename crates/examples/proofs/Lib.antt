-- The theorem over the worked examples of document 01, and those of the notes.
pub mod Given
pub mod PddlGiven
pub mod SwapGiven
