pub mod TranslatedLemmas
