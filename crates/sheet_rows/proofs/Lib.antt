pub mod AfterLine
pub mod Shown
