pub mod Arguments
pub mod Commands
pub mod Laws
pub mod Lines
pub mod Numbers
pub mod Sections
pub mod Words
