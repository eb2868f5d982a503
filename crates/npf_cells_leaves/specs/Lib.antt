pub mod LeavesLaw
pub mod Parents
pub mod Sights
pub mod TakingOff
pub mod Trie
