pub mod Limits
pub mod Format
pub mod Opening
pub mod Coming
pub mod Reading
