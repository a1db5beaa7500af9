-- Laws of proposals, and what the proofs of this crate's code cite.
-- ---- the definitions: part numbers, merges, the test for a circle
pub mod Partitions
pub mod PartNames
pub mod PartPairs
pub mod CameFrom
pub mod MergedNumbers
pub mod Merges
pub mod Kahn
pub mod RankedParts
pub mod SomeOrder
pub mod MergedArcs
-- ---- the theorems: how the merging starts and ends, what is proposed, what is written
pub mod OwnParts
pub mod Turns
pub mod MergingEnds
pub mod Proposed
pub mod ProposedTask
pub mod ProposeOutcome
pub mod WrittenProposal
pub mod Examples
-- ---- for the code: the lent buffers
pub mod Scratches
pub mod ClearedScratch
-- ---- those of a set that pass a test
pub mod Those
-- ---- a schema's start
pub mod StartWords
pub mod StartArcs
pub mod SchemaStart
-- ---- the test of a pair, and the search
pub mod SharedArcs
pub mod Placing
pub mod Widths
pub mod InPlay
pub mod PairTests
-- ---- a merge, and the merging
pub mod Renumbering
pub mod MergedParameters
pub mod ClosedArcs
pub mod MergingTurns
-- ---- all schemas, and the second table
pub mod SchemaParts
pub mod FreshRows
pub mod FreshParts
