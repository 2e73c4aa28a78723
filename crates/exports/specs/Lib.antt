-- What the numbers at the boundary mean.
pub mod Told
pub mod Places
