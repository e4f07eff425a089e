pub mod Runs
pub mod Passing
pub mod Downwards
pub mod Connect
pub mod Places
pub mod Same
pub mod Rowing
