pub mod Phrase
pub mod Place
pub mod Grammar
