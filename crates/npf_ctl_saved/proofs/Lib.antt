pub mod LoadingLemmas
