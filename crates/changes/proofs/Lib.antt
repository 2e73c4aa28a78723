-- Why the operations keep their promises: first what they share, then a file for each.
pub mod Calls
pub mod Positions
pub mod Inserting
pub mod Entering
pub mod Removing
pub mod Neighbours
pub mod Replacing
pub mod Clearing
