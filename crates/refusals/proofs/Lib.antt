-- Why the tests keep their promises, and what callers know of their codes.
pub mod Tested
pub mod Callers
