-- What a line says of its packet's outcome, a case for each row of the report's list (docs/npfctl.8, "The report").
use Rattle.std.specs.Prelude.{ℕ, ◌+◌, Bool, true, false, Option, Some, None, List, [], ◌++◌, codes}
use Rattle.std.specs.Fmt.{decimal}
use Rattle.npf_types.specs.declared.decision.Decision.{Decision}
use Rattle.npf_types.specs.declared.decision.Decision.TheVariants.{Pass, Block}
use Rattle.npf_types.specs.declared.decision.Return.{Return}
use Rattle.npf_types.specs.declared.decision.Return.TheVariants as Returns
use Rattle.npf_types.specs.declared.name.Name.{Name}
use Rattle.npf_types.specs.Name.{name_bytes}
use Rattle.npf_packet.specs.declared.decoded.BadPacket.{BadPacket}
use Rattle.npf_packet.specs.declared.decoded.BadPacket.TheVariants.{Cut, Bad}
use Rattle.npf_traffic.specs.declared.packet.FragWhy.{FragWhy}
use Rattle.npf_traffic.specs.declared.packet.FragWhy.TheVariants as Frags
use Rattle.npf_core.specs.declared.conn_id.ConnId.{ConnId}
use Rattle.npf_engine_opening.specs.declared.attempt.Refusal.{Refusal}
use Rattle.npf_engine_opening.specs.declared.attempt.Refusal.TheVariants as Refusals
use Rattle.npf_engine.specs.declared.outcome.Outcome.{Outcome}
use Rattle.npf_engine.specs.declared.outcome.Outcome.TheVariants.{Skip, Fragment, Malformed, ByConn, ByRule, Unkept, Dropped}

-- two numbers, each behind its text
abbrev pub two_numbers : List ℕ → ℕ → List ℕ → ℕ → List ℕ
two_numbers first one second other = first ++ (decimal one ++ (second ++ decimal other))

-- the interface that the packet is logged to
abbrev pub log_text : Option Name → List ℕ
log_text None = []
log_text (Some name) = codes " log " ++ name_bytes name

-- a fragment that is held: it waits or has gone into its datagram, or its datagram is refused, or it belongs to none
abbrev pub fragment_text : FragWhy → List ℕ
fragment_text Frags.Held = codes "skip fragment"
fragment_text Frags.Overlap = codes "skip fragment overlap"
fragment_text Frags.Bad = codes "skip fragment bad"

abbrev pub malformed_text : BadPacket → ℕ → List ℕ
malformed_text Cut at = codes "malformed cut " ++ decimal at
malformed_text Bad at = codes "malformed bad " ++ decimal at

-- the connection that the packet of this number opened took the packet as its step of this place, and accepted or refused it
abbrev pub conn_text : ℕ → ℕ → Bool → Option Name → List ℕ
conn_text opener place true log = two_numbers (codes "pass conn ") opener (codes " step ") place ++ log_text log
conn_text opener place false log = two_numbers (codes "block conn ") opener (codes " step ") place ++ codes " state"

abbrev pub return_text : Return → List ℕ
return_text Returns.Nothing = []
return_text Returns.Any = codes " return"
return_text Returns.Rst = codes " return-rst"
return_text Returns.Icmp = codes " return-icmp"

-- whether the packet opened a connection
abbrev pub opened_text : Option ConnId → List ℕ
opened_text None = []
opened_text (Some id) = codes " new"

-- what the configuration of this number decided by the rule at a place, or by none; rules are numbered from 1
abbrev pub verdict_text : ℕ → Option ℕ → Decision → Option ConnId → List ℕ
verdict_text config (Some place) Pass opened = two_numbers (codes "pass config ") config (codes " rule ") (place + 1) ++ opened_text opened
verdict_text config (Some place) (Block answer) opened = two_numbers (codes "block config ") config (codes " rule ") (place + 1) ++ return_text answer
verdict_text config None decision opened = codes "block config " ++ (decimal config ++ codes " none")

-- why a packet has no connection
abbrev pub refusal_text : Refusal → List ℕ
refusal_text Refusals.Full = codes " full"
refusal_text Refusals.NoNode = codes " nonode"
refusal_text (Refusals.Taken holder) = codes " taken"
refusal_text Refusals.NoPort = codes " noport"

-- a packet that passes without the connection that it was to open
unfoldable pub unkept_text : ℕ → ℕ → Refusal → List ℕ
unkept_text config place why =
    two_numbers (codes "pass config ") config (codes " rule ") (place + 1) ++ (codes " unkept" ++ refusal_text why)

abbrev pub dropped_text : ℕ → ℕ → Refusal → List ℕ
dropped_text config place why = two_numbers (codes "drop config ") config (codes " rule ") (place + 1) ++ refusal_text why

-- what follows the direction in a packet's line
abbrev pub outcome_text : Outcome → List ℕ
outcome_text Skip = codes "skip"
outcome_text (Fragment why) = fragment_text why
outcome_text (Malformed why at) = malformed_text why at
outcome_text (ByConn id opener place pass log) = conn_text opener place pass log
outcome_text (ByRule decision log rule config opened) = verdict_text config rule decision opened ++ log_text log
outcome_text (Unkept log rule config why) = unkept_text config rule why ++ log_text log
outcome_text (Dropped rule config why) = dropped_text config rule why
