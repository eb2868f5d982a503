pub mod RunLemmas
pub mod LexerLemmas
