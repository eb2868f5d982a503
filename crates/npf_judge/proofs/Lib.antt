pub mod AnswerLemmas
pub mod FirstLemmas
pub mod PlaceLemmas
pub mod QuestionLemmas
