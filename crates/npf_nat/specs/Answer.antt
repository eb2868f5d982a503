-- The change of the answers to a packet that a change translates.
use Rattle.std.specs.Prelude.{ℕ}
use Rattle.std.specs.Option.{option_map}
use Rattle.npf_types.specs.declared.address.Addr.{Addr}
use Rattle.npf_types.specs.declared.change.Change.{Change}
use Rattle.npf_types.specs.declared.change.End.{End}
use Rattle.npf_types.specs.declared.facts.Facts.{Facts}
use Rattle.npf_key.specs.Port.{source_port, destination_port}

-- the packet's own end, with its port or identifier exactly where the change names one
abbrev pub own_end : Addr → ℕ → End → End
own_end addr port named = record { addr = addr; port = option_map (λ _. port) named.port }

-- An answer goes to where the packet came from: its destination is the packet's own source where
-- the source was translated, and its source the packet's own destination where the destination was.
abbrev pub answer_change : Facts → Change → Change
answer_change facts there = record {
  src = option_map (own_end facts.dst (destination_port facts.l4)) there.dst;
  dst = option_map (own_end facts.src (source_port facts.l4)) there.src;
  neutral = there.neutral;
}
