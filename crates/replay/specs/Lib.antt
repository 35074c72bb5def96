pub mod Rooms
pub mod Touched
