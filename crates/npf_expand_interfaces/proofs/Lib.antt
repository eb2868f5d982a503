pub mod IfaceFileLemmas
