-- A packet that a map with the algorithm `npt66` translates keeps its sums, and so does the answer to it (RFC 6296 section 3.6).
use Rattle.std.specs.Prelude.{◌≡◌, ℕ, true, Some, None, List}
use Rattle.npf_types.specs.declared.action.Action.{Action}
use Rattle.npf_types.specs.declared.change.Change.{Change}
use Rattle.npf_types.specs.declared.direction.Dir.{Dir}
use Rattle.npf_types.specs.declared.facts.Facts.{Facts}
use Rattle.npf_types.specs.declared.link.Link.{Link}
use Rattle.npf_key.specs.Laws.{IsOneFamily}
use Rattle.npf_key.specs.Translated.{facts_there}
use Rattle.npf_model.specs.declared.map.Algo.TheVariants.{Npt66}
use Rattle.npf_model.specs.declared.map.Map.{Map}
use Rattle.npf_nat.specs.declared.map_plan.MapPlan.TheVariants.{Fixed}
use Rattle.npf_nat.specs.Laws.{Is128Bits}
use Rattle.npf_nat.specs.MapPlan.{plan}
use Rattle.npf_nat.specs.PrefixPair.{ArePrefixes}
use Rattle.npf_packet.specs.declared.decoded.Decoded.TheVariants.{Ip}
use Rattle.npf_packet.specs.Decoder.{Decodes}
use Rattle.npf_rewrite.specs.NormalisedFacts.{ActionFits}
use Rattle.npf_rewrite.specs.Sent.{Sent}
use Rattle.npf_rewrite.specs.SentLaw.{IsPacketThere}
use Rattle.npf_rewrite.specs.Translated.{Translated}
use Rattle.npf_rewrite.specs.TranslatedFacts.{AddressesFit}
use Rattle.npf_rewrite.specs.Verified.{HasBytes, KeepsSums, PortsFit}

-- a map with this algorithm as a configuration has one: IPv6 prefixes of one length up to 48 bits, and no ports
pub record IsPrefixMap (map : Map) : Type 0 where
  pub algo : map.algo ≡ Npt66
  pub prefixes : ArePrefixes map.inside.net map.outside.net
  pub inside : Is128Bits map.inside.net
  pub outside : Is128Bits map.outside.net
  pub no_ports : map.inside.ports ≡ None

-- a change by which no sum is adjusted, and none has to be
pub record IsNeutral (bytes : List ℕ) (facts : Facts) (change : Change) (translated : List ℕ) : Type 0 where
  pub neutral : change.neutral ≡ true
  pub keeps : KeepsSums bytes facts change translated

-- a packet that such a map translates
abbrev pub PacketKeepsSums : Type 0
PacketKeepsSums =
    (link : Link) (bytes translated : List ℕ) (unsaid : ℕ × ℕ) (map : Map) (facts : Facts) (dir : Dir) (there back : Change)
    → IsPrefixMap map → Decodes link bytes (Ip facts) → plan unsaid map facts dir ≡ Some (Fixed there back)
    → AddressesFit facts there → Translated bytes facts there translated
    → IsNeutral bytes facts there translated

-- the answer to a translated packet comes from where that went, and goes to where that seems to come from
pub record IsAnswer (facts : Facts) (there : Change) (answer : Facts) : Type 0 where
  pub src : answer.src ≡ (facts_there there facts).dst
  pub dst : answer.dst ≡ (facts_there there facts).src

-- the answer to it, under the change back
abbrev pub AnswerKeepsSums : Type 0
AnswerKeepsSums =
    (link : Link) (answered translated : List ℕ) (unsaid : ℕ × ℕ) (map : Map) (facts answer : Facts) (dir : Dir) (there back : Change)
    → IsPrefixMap map → IsOneFamily facts → plan unsaid map facts dir ≡ Some (Fixed there back)
    → IsAnswer facts there answer → Decodes link answered (Ip answer)
    → AddressesFit answer back → Translated answered answer back translated
    → IsNeutral answered answer back translated

-- So what is sent of such a packet is that packet: a sum that verified verifies.
abbrev pub PacketIsSent : Type 0
PacketIsSent =
    (link : Link) (bytes sent : List ℕ) (unsaid : ℕ × ℕ) (map : Map) (facts : Facts) (action : Action) (dir : Dir) (there back : Change)
    → IsPrefixMap map → HasBytes bytes → ActionFits action → AddressesFit facts there → PortsFit facts there
    → Decodes link bytes (Ip facts) → plan unsaid map facts dir ≡ Some (Fixed there back)
    → Sent bytes facts action there sent → IsPacketThere link bytes facts there sent

-- and so is what is sent of the answer
abbrev pub AnswerIsSent : Type 0
AnswerIsSent =
    (link : Link) (answered sent : List ℕ) (unsaid : ℕ × ℕ) (map : Map) (facts answer : Facts) (action : Action) (dir : Dir) (there back : Change)
    → IsPrefixMap map → IsOneFamily facts → HasBytes answered → ActionFits action
    → AddressesFit answer back → PortsFit answer back → Decodes link answered (Ip answer)
    → plan unsaid map facts dir ≡ Some (Fixed there back) → IsAnswer facts there answer
    → Sent answered answer action back sent → IsPacketThere link answered answer back sent
