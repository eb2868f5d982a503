pub mod Draw
pub mod Opening
pub mod Saying
pub mod Start
pub mod Ways
