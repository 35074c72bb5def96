pub mod Ring
pub mod Below
pub mod Power
