-- In what two rules differ, if what they do is not the same.
use Rattle.std.specs.Prelude.{ℕ, Bool, true, false, if◌then◌else◌, List, codes}
use Rattle.npf_types.specs.declared.decision.Return.{Return}
use Rattle.npf_types.specs.declared.decision.Return.TheVariants.{Nothing, Any, Rst, Icmp}
use Rattle.npf_model.specs.declared.rule.StateOpt.{StateOpt}
use Rattle.npf_model.specs.declared.rule.StateOpt.TheVariants.{Not, OnInterface, Everywhere}
use Rattle.npf_treatment.specs.declared.rule.RuleEffect.{RuleEffect}
use Rattle.npf_treatment.specs.declared.rule.RuleEffect.TheVariants.{Blocked, Passed}

abbrev pub is_same_answer : Return → Return → Bool
is_same_answer Nothing Nothing = true
is_same_answer Any Any = true
is_same_answer Rst Rst = true
is_same_answer Icmp Icmp = true
is_same_answer one other = false

abbrev pub is_same_state : StateOpt → StateOpt → Bool
is_same_state Not Not = true
is_same_state OnInterface OnInterface = true
is_same_state Everywhere Everywhere = true
is_same_state one other = false

-- the first of these: whether the packet passes, what is answered where it doesn't, how its connection is kept where it does, and what the procedures do
abbrev pub unlike_word : RuleEffect → RuleEffect → List ℕ
unlike_word (Blocked one one_log) (Blocked other other_log) = if is_same_answer one other then codes "procedure" else codes "answer"
unlike_word (Passed one one_action) (Passed other other_action) = if is_same_state one other then codes "procedure" else codes "state"
unlike_word one other = codes "verdict"
