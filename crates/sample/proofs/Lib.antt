pub mod Same
pub mod Wave
pub mod Within
