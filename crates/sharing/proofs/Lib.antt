pub mod SplitRules
pub mod SplitAccepted
pub mod SplitRows
pub mod SplitBytes
pub mod CombineAccepted
