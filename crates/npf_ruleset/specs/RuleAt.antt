-- The program of the rule at a place of a model, counted from 0 in the order of inspection.
use Rattle.std.specs.Prelude.{◌≡◌, ℕ, List, Some}
use Rattle.npf_model.specs.declared.model.Model.{Model}
use Rattle.npf_model.specs.declared.rule.Rule.{Rule}
use Rattle.npf_model.specs.Verdict.{rule_at}
use Rattle.npf_bpf.specs.declared.insn.Insn.{Insn}
use Rattle.npf_ruleset.specs.Flat.{IsCompiled}

-- the program is that of the rule there
abbrev pub IsProgramAt : Model → ℕ → List Insn → Type 0
IsProgramAt model i program = (rule : Rule) → rule_at model i ≡ Some rule → IsCompiled rule program
