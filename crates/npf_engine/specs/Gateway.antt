-- The ICMP gateway (`alg "icmp"` of npf.conf(5)): an error of ICMP or ICMPv6 goes with the connection whose packet it quotes.
use Rattle.std.specs.Prelude.{◌≡◌, ℕ, Bool, true, false, Option, None, List, []}
use Rattle.npf_types.specs.declared.facts.Facts.{Facts}
use Rattle.npf_flow.specs.declared.step.FlowArg.{FlowArg}
use Rattle.npf_icmpalg.specs.declared.error.Inner.{Inner}
use Rattle.npf_icmpalg.specs.Error.{IsError, inner_key, is_error}
use Rattle.npf_engine.specs.declared.connection.Met.{Met}
use Rattle.npf_engine.specs.Arrival.{Arrival, any_interface, arg_of}
use Rattle.npf_engine.specs.Connection.{FindsEither}
use Rattle.npf_engine_opening.specs.Saying.{FlowSaid}

-- what an error brings to a step of the connection whose packet it quotes: it peeks, and so moves nothing on
abbrev pub peek_of : ℕ → Facts → FlowArg
peek_of time facts = record (arg_of time facts) { peek = true }

-- What a packet that no connection took asked for what it quotes. Without the gateway, or where it is no error, it asked nothing. An
-- error looked for the key of what answers the quoted packet, with its interface and with every interface.
pub data AsksQuoted (gateway : Bool) (arrival : Arrival) (facts : Facts) : List FlowSaid → Option Met → Type 0 where
  off : gateway ≡ false → AsksQuoted gateway arrival facts [] None
  no_error : is_error arrival.bytes facts ≡ false → AsksQuoted gateway arrival facts [] None
  quotes : {inner : Inner} {said : List FlowSaid} {result : Option Met} → gateway ≡ true → IsError arrival.bytes facts inner →
      FindsEither arrival.number (peek_of arrival.time facts) (inner_key inner arrival.ifid) (inner_key inner any_interface) said result →
      AsksQuoted gateway arrival facts said result
