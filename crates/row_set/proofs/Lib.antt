pub mod Chains
pub mod RowSet
pub mod LaidRows
