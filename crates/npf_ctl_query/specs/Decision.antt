-- What a rule decides, in one word.
use Rattle.std.specs.Prelude.{ℕ, Option, Some, None, List, codes}
use Rattle.npf_types.specs.declared.decision.Decision.{Decision}
use Rattle.npf_types.specs.declared.decision.Decision.TheVariants.{Pass, Block}
use Rattle.npf_types.specs.declared.decision.Return.{Return}
use Rattle.npf_types.specs.declared.decision.Return.TheVariants.{Nothing, Any, Rst, Icmp}
use Rattle.npf_model.specs.declared.rule.Rule.{Rule}
use Rattle.npf_model.specs.declared.rule.StateOpt.{StateOpt}
use Rattle.npf_model.specs.declared.rule.StateOpt.TheVariants.{Not, OnInterface, Everywhere}

-- with how the connection of what passes is kept
abbrev pub pass_word : StateOpt → List ℕ
pass_word Not = codes "pass"
pass_word OnInterface = codes "pass-stateful"
pass_word Everywhere = codes "pass-stateful-all"

-- with what is answered to the sender
abbrev pub block_word : Return → List ℕ
block_word Nothing = codes "block"
block_word Any = codes "block-return"
block_word Rst = codes "block-return-rst"
block_word Icmp = codes "block-return-icmp"

abbrev pub decision_word : Decision → StateOpt → List ℕ
decision_word Pass state = pass_word state
decision_word (Block answer) state = block_word answer

-- what no rule decides on is blocked without an answer
abbrev pub rule_word : Option Rule → List ℕ
rule_word None = codes "block"
rule_word (Some rule) = decision_word rule.decision rule.state
