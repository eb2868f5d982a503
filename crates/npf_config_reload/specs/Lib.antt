pub mod Before
pub mod Reloads
pub mod Taken
