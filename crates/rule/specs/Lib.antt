pub mod Limits
pub mod Rows
pub mod Texts
pub mod Tables
pub mod Horizons
pub mod Made
