pub mod NumberLemmas
pub mod PartsLemmas
pub mod WholeLemmas
