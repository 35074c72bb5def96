pub mod SplitRow
pub mod CombineLaid
pub mod Places
pub mod Recovery
pub mod Hiding
pub mod Promises
pub mod Table
