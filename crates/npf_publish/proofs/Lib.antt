pub mod ProtocolLemmas
