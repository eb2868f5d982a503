pub mod SameLemmas
pub mod SayLemmas
pub mod SoundLemmas
pub mod ValueLemmas
