pub mod Rows
pub mod Windows
pub mod Settle
pub mod Narrow
pub mod Shift
pub mod Forget
pub mod Lists
pub mod Computed
