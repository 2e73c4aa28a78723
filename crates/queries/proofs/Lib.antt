-- Why the queries keep their promises.
pub mod Searching
pub mod Stepping
