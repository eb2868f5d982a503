pub mod CountedLemmas
pub mod ElementLemmas
pub mod FirstAtom
pub mod ReadLemmas
pub mod StepLemmas
pub mod SettingsLemmas
