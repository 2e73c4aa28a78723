-- How the descents go, and what follows for a caller.
pub mod Downward
pub mod Keeping
pub mod Passing
pub mod Sliding
pub mod Finding
pub mod Bounding
pub mod Entering
pub mod Entries
pub mod Trees
