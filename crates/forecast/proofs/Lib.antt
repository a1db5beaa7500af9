-- Laws of the sizes that a split will need.
pub mod Capped
pub mod GroundInstances
pub mod RangeSums
pub mod SplitText
pub mod HeadText
pub mod AtomRows
pub mod PairRows
pub mod CountedLines
pub mod TokenBytes
pub mod PartText
pub mod Outcome
pub mod SizesOfSplit
pub mod Examples
pub mod OneByte
