pub mod Places
pub mod Positions
