pub mod JoiningLemmas
