pub mod Entries
pub mod ManyRows
pub mod NeedsK
