pub mod Coming
pub mod Endings
pub mod Limits
pub mod Patterns
pub mod Rows
pub mod Waves
