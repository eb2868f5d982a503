-- The headers that were passed are a chain as far as they go.
use Rattle.std.proofs.Common.{◌+◌, ◌-◌, ◌≤◌, ◌<◌, List}
use Rattle.npf_packet.{specs.{declared.ipv6.Header.Header, Ipv6.{first_header, next_header}}, proofs.ChainLemmas.HasPassed}
use Rattle.npf_packet.proofs.ipv6.last_header.Given as goal

abbrev pub invariant-headers : goal.invariant-headers
invariant-headers l = record {
  after : l.ip_at + 40 ≤ l.header.at;
  before : l.header.at ≤ l.end;
  named_behind : l.ip_at ≤ l.header.named_at;
  named_before : l.header.named_at < l.header.at;
  passed : (headers : List Header) × HasPassed (next_header l.bytes l.end) (first_header l.bytes l.ip_at) headers l.header;
}

abbrev pub decreases-headers : goal.decreases-headers
decreases-headers l = l.end - l.header.at
