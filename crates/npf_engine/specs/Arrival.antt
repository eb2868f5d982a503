-- A packet as it arrives, and what of it is asked of connections.
use Rattle.std.specs.Prelude.{ℕ, false, Option, Some, None, List}
use Rattle.npf_types.specs.declared.direction.Dir.{Dir}
use Rattle.npf_types.specs.declared.facts.Facts.{Facts}
use Rattle.npf_types.specs.declared.facts.L4.{L4}
use Rattle.npf_types.specs.declared.facts.L4.TheVariants.{Tcp, Udp, Icmp, Icmp6, Other}
use Rattle.npf_types.specs.declared.facts.Segment.{Segment}
use Rattle.npf_types.specs.declared.interface.IfId.{IfId}
use Rattle.npf_types.specs.declared.link.Link.{Link}
use Rattle.npf_flow.specs.declared.step.FlowArg.{FlowArg}
use Rattle.npf_traffic.specs.declared.packet.FragWhy.{FragWhy}

-- its number in the run, from 1; its time in nanoseconds; its record's link and bytes; the interface that it crosses, this way; and why
-- it goes no further, if it is a fragment that is held
pub record Arrival : Type 0 where
  pub number : ℕ
  pub time : ℕ
  pub link : Link
  pub ifid : IfId
  pub dir : Dir
  pub held : Option FragWhy
  pub bytes : List ℕ

-- a packet that isn't held
abbrev pub arrival : ℕ → ℕ → Link → IfId → Dir → List ℕ → Arrival
arrival n time link ifid dir bytes = record { number = n; time = time; link = link; ifid = ifid; dir = dir; held = None; bytes = bytes }

-- no interface of a run: a key with it is every interface's
abbrev pub any_interface : IfId
any_interface = record { 0 = 0 }

-- the segment of a TCP packet, and of no other
abbrev pub tcp_segment : L4 → Option Segment
tcp_segment (Tcp sport dport seg mss_at) = Some seg
tcp_segment (Udp sport dport) = None
tcp_segment (Icmp kind code echo) = None
tcp_segment (Icmp6 kind code echo) = None
tcp_segment Other = None

-- what the packet brings to a step: its time, and exactly where it is TCP's its segment; it doesn't only peek
abbrev pub arg_of : ℕ → Facts → FlowArg
arg_of time facts = record { now = time; seg = tcp_segment facts.l4; peek = false }
