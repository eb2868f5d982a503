pub mod ChainLemmas
pub mod DecodingLemmas
pub mod FragmentAtLemmas
pub mod HeaderLemmas
pub mod PacketFieldLemmas
pub mod TcpOptionLemmas
pub mod UpperLemmas
