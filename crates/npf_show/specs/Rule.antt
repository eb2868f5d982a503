-- A rule: its action, state, direction, finality and interface, its filter, and the procedure that it applies.
use Rattle.std.specs.Prelude.{ℕ, Bool, true, false, Option, Some, None, List, [], ◌++◌, slice_get, codes}
use Rattle.npf_types.specs.declared.decision.Decision.{Decision}
use Rattle.npf_types.specs.declared.decision.Decision.TheVariants.{Pass, Block}
use Rattle.npf_types.specs.declared.decision.Return.{Return}
use Rattle.npf_types.specs.declared.decision.Return.TheVariants.{Nothing, Any, Rst, Icmp}
use Rattle.npf_model.specs.declared.model.Model.{Model}
use Rattle.npf_model.specs.declared.procedure.Procedure.{Procedure}
use Rattle.npf_model.specs.declared.rule.Rule.{Rule}
use Rattle.npf_model.specs.declared.rule.StateOpt.{StateOpt}
use Rattle.npf_model.specs.declared.rule.StateOpt.TheVariants.{Not, OnInterface, Everywhere}
use Rattle.npf_show.specs.Bound.{dir_pieces, on_pieces}
use Rattle.npf_show.specs.Filter.{filter_pieces}
use Rattle.npf_show.specs.Piece.{Piece, Word, Quoted, glued, spaced, optional_pieces}

abbrev pub return_pieces : Return → List Piece
return_pieces Nothing = []
return_pieces Any = spaced (Word (codes "return"))
return_pieces Rst = spaced (Word (codes "return-rst"))
return_pieces Icmp = spaced (Word (codes "return-icmp"))

-- the first word of a rule
abbrev pub decision_pieces : Decision → List Piece
decision_pieces Pass = glued (Word (codes "pass"))
decision_pieces (Block answer) = glued (Word (codes "block")) ++ return_pieces answer

abbrev pub state_pieces : StateOpt → List Piece
state_pieces Not = []
state_pieces OnInterface = spaced (Word (codes "stateful"))
state_pieces Everywhere = spaced (Word (codes "stateful-all"))

abbrev pub final_pieces : Bool → List Piece
final_pieces false = []
final_pieces true = spaced (Word (codes "final"))

-- the name of the procedure of a number; a number that no procedure has gives none
abbrev pub name_of_procedure : Option Procedure → List ℕ
name_of_procedure None = []
name_of_procedure (Some procedure) = procedure.name

abbrev pub apply_pieces : Model → ℕ → List Piece
apply_pieces model number =
    spaced (Word (codes "apply")) ++ spaced (Quoted (name_of_procedure (slice_get model.procedures number)))

abbrev pub rule_pieces : Model → Rule → List Piece
rule_pieces model rule =
    decision_pieces rule.decision
    ++ state_pieces rule.state
    ++ optional_pieces dir_pieces rule.dir
    ++ final_pieces rule.last
    ++ optional_pieces on_pieces rule.on
    ++ filter_pieces model rule
    ++ optional_pieces (apply_pieces model) rule.procedure
