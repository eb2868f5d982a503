pub mod AskedAbout
pub mod CheckText
pub mod First
pub mod Met
pub mod Reading
pub mod Told
