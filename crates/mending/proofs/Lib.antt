-- The climb after a removal keeps its promises.
pub mod Passing
pub mod Turning
pub mod Lowering
pub mod Rounding
pub mod Ending
pub mod Passes
pub mod Refilling
