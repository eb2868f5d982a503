-- The ports of a packet, by what it carries: TCP and UDP have theirs (RFC 9293 section 3.1, RFC 768), an echo message has its
-- identifier on both sides (RFC 792, RFC 4443 section 4), and all else has 0.
use Rattle.std.specs.Prelude.{ℕ, Option, Some, None}
use Rattle.npf_types.specs.declared.facts.L4.{L4}
use Rattle.npf_types.specs.declared.facts.L4.TheVariants.{Tcp, Udp, Icmp, Icmp6, Other}

-- an echo's identifier, where the message is one
abbrev pub echo_port : Option ℕ → ℕ
echo_port (Some identifier) = identifier
echo_port None = 0

abbrev pub source_port : L4 → ℕ
source_port (Tcp sport _ _ _) = sport
source_port (Udp sport _) = sport
source_port (Icmp _ _ echo) = echo_port echo
source_port (Icmp6 _ _ echo) = echo_port echo
source_port Other = 0

abbrev pub destination_port : L4 → ℕ
destination_port (Tcp _ dport _ _) = dport
destination_port (Udp _ dport) = dport
destination_port (Icmp _ _ echo) = echo_port echo
destination_port (Icmp6 _ _ echo) = echo_port echo
destination_port Other = 0
