pub mod Filter
pub mod Rule
pub mod Map
pub mod Procedure
pub mod Stmt
pub mod Parse
pub mod Law
