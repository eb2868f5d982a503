pub mod AlikeLemmas
pub mod AnyPacket
pub mod ChecksumLemmas
pub mod FilesLemmas
pub mod FitsLemmas
pub mod GotLemmas
pub mod LeaderLemmas
pub mod NumberedLemmas
