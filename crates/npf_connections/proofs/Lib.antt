pub mod AddLemmas
pub mod RecordLemmas
pub mod SaidLemmas
pub mod StayLemmas
pub mod WithoutLemmas
