-- The last line of an explanation: what becomes of the packet by the rule that decides, the answer of a block, whether the connection of what passes is
-- kept, and the map that translates what passes. The words are those of the report and of the canonical text.
use Rattle.std.specs.Prelude.{ℕ, Option, Some, None, List, [], ◌++◌, codes}
use Rattle.npf_types.specs.declared.decision.Decision.{Decision}
use Rattle.npf_types.specs.declared.decision.Decision.TheVariants.{Pass, Block}
use Rattle.npf_model.specs.declared.model.Model.{Model}
use Rattle.npf_model.specs.declared.rule.Rule.{Rule}
use Rattle.npf_model.specs.declared.rule.StateOpt.{StateOpt}
use Rattle.npf_model.specs.Verdict.{rule_at}
use Rattle.npf_show.specs.Piece.{spelled}
use Rattle.npf_show.specs.Rule.{return_pieces, state_pieces}
use Rattle.npf_ctl_query.specs.QueryText.{ordinal_text}

-- only what passes is translated
abbrev pub translated_text : Option ℕ → List ℕ
translated_text None = []
translated_text (Some map) = codes " map " ++ ordinal_text map

abbrev pub decision_text : ℕ → Decision → StateOpt → Option ℕ → List ℕ
decision_text place Pass state map = codes "pass rule " ++ (ordinal_text place ++ (spelled (state_pieces state) ++ translated_text map))
decision_text place (Block answer) state map = codes "block rule " ++ (ordinal_text place ++ spelled (return_pieces answer))

abbrev pub decided_text : ℕ → Option Rule → Option ℕ → List ℕ
decided_text place (Some rule) map = decision_text place rule.decision rule.state map
decided_text place None map = []

-- of the rule at this place, or of none, and of the map at this place
abbrev pub verdict_words : Model → Option ℕ → Option ℕ → List ℕ
verdict_words model None map = codes "block none"
verdict_words model (Some place) map = decided_text place (rule_at model place) map
