pub mod KindLemmas
pub mod PacketsLemmas
