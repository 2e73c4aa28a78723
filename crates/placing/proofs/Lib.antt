-- Why the functions keep their promises.
pub mod Positions
pub mod Hanging
pub mod Entries
pub mod Besides
pub mod Gaps
