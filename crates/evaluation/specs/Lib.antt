pub mod Memory
pub mod Told
pub mod Views
pub mod Pass
pub mod Passes
pub mod Connectives
pub mod Nodes
