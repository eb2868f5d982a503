mod GatherLemmas
mod PacketLemmas
