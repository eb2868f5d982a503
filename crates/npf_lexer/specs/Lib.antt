pub mod ByteClass
pub mod Front
pub mod Lexer
pub mod Place
pub mod Run
pub mod Sign
