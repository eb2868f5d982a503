-- For which packets a port or an identifier is drawn, and from which numbers.
use Rattle.std.specs.Prelude.{ℕ, ◌+◌, ◌-◌, ◌%◌, if◌then◌else◌, Option, Some, None}
use Rattle.npf_types.specs.declared.facts.L4.{L4}
use Rattle.npf_types.specs.declared.facts.L4.TheVariants.{Tcp, Udp, Icmp, Icmp6, Other}
use Rattle.npf_model.specs.Describes.{in_range}
use Rattle.npf_model.specs.declared.map.Algo.{Algo}
use Rattle.npf_model.specs.declared.map.Algo.TheVariants.{Dynamic, Netmap, Npt66}

-- the source port of TCP and UDP, and the identifier of an echo (RFC 3022 section 4.1)
abbrev pub source_number : L4 → Option ℕ
source_number (Tcp sport _ _ _) = Some sport
source_number (Udp sport _) = Some sport
source_number (Icmp _ _ echo) = echo
source_number (Icmp6 _ _ echo) = echo
source_number Other = None

-- the number for which a map draws another: a dynamic map does so
abbrev pub drawn_for : Algo → L4 → Option ℕ
drawn_for Dynamic l4 = source_number l4
drawn_for Netmap l4 = None
drawn_for Npt66 l4 = None

-- the numbers to draw from: those of the map's outside, or these where it has none
abbrev pub drawn_range : Option (ℕ × ℕ) → ℕ × ℕ → ℕ × ℕ
drawn_range (Some ports) unsaid = ports
drawn_range None unsaid = unsaid

-- the number that is tried first: the packet's own where it may be drawn, and otherwise one that is
-- its own modulo the count
abbrev pub first_candidate : ℕ × ℕ → ℕ → ℕ
first_candidate range number = if in_range number range then number else range.0 + number % (range.1 - range.0 + 1)
