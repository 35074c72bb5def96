pub mod Lists
pub mod Polynomial
pub mod Rows
pub mod Count
pub mod Theorems
