pub mod SinkLemmas
mod MemFilesLemmas
mod PartLemmas
mod StreamLemmas
