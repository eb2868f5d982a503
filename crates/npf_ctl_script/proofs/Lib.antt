pub mod ArgumentLemmas
pub mod FormLemmas
pub mod LineLemmas
pub mod NumberLemmas
pub mod OneScriptLemmas
pub mod SectionLemmas
