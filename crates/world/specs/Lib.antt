pub mod Answers
pub mod Limits
pub mod World
pub mod Tests
pub mod Steps
pub mod Law
