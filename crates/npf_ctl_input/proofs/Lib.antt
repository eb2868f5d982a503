pub mod AroundLemmas
pub mod FileLemmas
pub mod LawLemmas
pub mod LoadingLemmas
pub mod ReadingLemmas
pub mod RuleLemmas
pub mod UnlessLemmas
