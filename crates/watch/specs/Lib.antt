pub mod Cells
pub mod Memory
pub mod Ready
pub mod Stands
pub mod Calls
pub mod Refreshed
