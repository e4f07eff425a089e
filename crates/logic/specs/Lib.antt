pub mod Formula
pub mod Trace
pub mod Values
pub mod Meaning
pub mod Theorems
pub mod Examples
