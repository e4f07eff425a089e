pub mod Entries
pub mod Reaches
pub mod Fused
pub mod Checks
pub mod Back
pub mod Sole
pub mod Exact
