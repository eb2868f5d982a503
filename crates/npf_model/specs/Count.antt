-- How many elements the lists of a rule have: its protocols, the addresses and the ranges of ports of both sides.
use Rattle.std.specs.Prelude.{ℕ, ◌+◌, Option, Some, None, List, length}
use Rattle.npf_model.specs.declared.ends.Ends.{Ends}
use Rattle.npf_model.specs.declared.rule.Rule.{Rule}

abbrev pub listed : {X : Type 0} → Option (List X) → ℕ
listed None = 0
listed (Some items) = length items

abbrev pub elements_of_ends : Ends → ℕ
elements_of_ends ends = listed ends.addrs + listed ends.ports

abbrev pub elements_of : Rule → ℕ
elements_of rule = length rule.protos + elements_of_ends rule.from + elements_of_ends rule.to
