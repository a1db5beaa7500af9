-- Laws of lists, ranges, runs of words, words that are put somewhere, and sets of bits.
pub mod Lists
pub mod Ranges
pub mod Ascending
pub mod Sums
pub mod Words
pub mod Puts
pub mod PutWords
pub mod JoinedWords
pub mod BitSets
pub mod SetMembers
pub mod LowestMembers
pub mod SetLoops
pub mod Loops
pub mod Chains
pub mod Quarters
pub mod Comparing
