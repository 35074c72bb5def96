pub mod Zero
pub mod Mask
