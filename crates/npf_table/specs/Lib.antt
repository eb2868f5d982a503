pub mod Fault
pub mod Line
pub mod PrefixText
pub mod Table
pub mod TableFile
