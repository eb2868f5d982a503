pub mod OneExpiry
