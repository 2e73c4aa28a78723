-- remove keeps its promise, and what that means for a tree.
pub mod Detaching
pub mod Finishing
pub mod Moving
pub mod Removing
pub mod Trees
