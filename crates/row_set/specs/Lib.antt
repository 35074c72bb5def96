pub mod Limits
pub mod RowSet
