pub mod LineLemmas
pub mod PrefixTextLemmas
pub mod TableFileLemmas
