-- What of a packet goes on.
use Rattle.std.specs.Prelude.{ℕ, Bool, true, false, if◌then◌else◌, List, Option, Some, None}
use Rattle.npf_types.specs.declared.decision.Decision.{Decision}
use Rattle.npf_types.specs.declared.decision.Decision.TheVariants.{Pass, Block}
use Rattle.npf_engine_opening.specs.declared.attempt.Refusal.TheVariants as Refusals
use Rattle.npf_engine.specs.declared.outcome.Outcome.{Outcome}
use Rattle.npf_engine.specs.declared.outcome.Outcome.TheVariants.{Skip, Fragment, Malformed, ByConn, ByRule, Unkept, Dropped}

abbrev pub is_pass : Decision → Bool
is_pass Pass = true
is_pass (Block answer) = false

abbrev pub passes : Outcome → Bool
passes Skip = false
passes (Fragment why) = false
passes (Malformed why at) = false
passes (ByConn id opener place pass log) = pass
passes (ByRule decision log rule config opened) = is_pass decision
passes (Unkept log rule config why) = true
passes (Dropped rule config why) = false

-- the bytes that are sent of a packet that is left with these: none where it doesn't pass
abbrev pub sent_of : Outcome → List ℕ → Option (List ℕ)
sent_of outcome bytes = if passes outcome then Some bytes else None

-- the table of connections had no node left for the packet
abbrev pub lacks_node : Outcome → Bool
lacks_node (Unkept log rule config Refusals.NoNode) = true
lacks_node (Dropped rule config Refusals.NoNode) = true
lacks_node _ = false
