pub mod ClearingLemmas
pub mod LearningLemmas
pub mod MarkLemmas
pub mod PlacingLemmas
pub mod StepLawLemmas
pub mod StepLemmas
pub mod StoringLemmas
