pub mod Bytes
pub mod Sections
pub mod Exact
pub mod Samples
pub mod SoleComing
