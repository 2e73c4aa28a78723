pub mod Cutting
pub mod Keys
pub mod Only
pub mod Told
