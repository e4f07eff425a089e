pub mod Limits
pub mod Codes
pub mod Laws
pub mod PassFails
pub mod Margins
pub mod ValuesLemmas
pub mod Restored
