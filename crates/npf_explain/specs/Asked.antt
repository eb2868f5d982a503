-- What is asked of an entry of the order of precedence, in the words of a packet that is asked about.
use Rattle.std.specs.Prelude.{◌≡◌, Bool, Option}
use Rattle.npf_model.specs.Verdict.{matches}
use Rattle.npf_ruleset.specs.declared.config.Config.{Config}
use Rattle.npf_ruleset.specs.declared.misfit.Part.{Part}
use Rattle.npf_ruleset.specs.Misfit.{rule_misfit}
use Rattle.npf_ruleset.specs.Tables.{entries}
use Rattle.npf_precedence.specs.declared.entry.RuleEntry.{RuleEntry}
use Rattle.npf_precedence.specs.Entry.{ordered_rule}
use Rattle.npf_precedence.specs.PrecedenceLaw.{meets}
use Rattle.npf_explain.specs.declared.asked.PacketAsked.{PacketAsked}
use Rattle.npf_explain.specs.declared.decider.Decider.{Decider}
use Rattle.npf_explain.specs.declared.told.GroupTold.{GroupTold}
use Rattle.npf_explain.specs.declared.told.RuleTold.{RuleTold}
use Rattle.npf_explain.specs.Explanation.{rule_told}

-- the tables are the configuration's
abbrev pub HasTablesOf : Config → PacketAsked → Type 0
HasTablesOf config asked = asked.tables.now ≡ config.tables.items

abbrev pub entry_misfit : PacketAsked → RuleEntry → Option Part
entry_misfit asked entry = rule_misfit (ordered_rule entry).placed (entries asked.tables.now) asked.facts.now asked.ifid asked.dir

abbrev pub entry_matches : PacketAsked → RuleEntry → Bool
entry_matches asked entry = matches (entries asked.tables.now) asked.facts.now asked.ifid asked.dir (ordered_rule entry).placed

abbrev pub entry_meets : PacketAsked → RuleEntry → Bool
entry_meets asked entry = meets (entries asked.tables.now) asked.facts.now asked.ifid asked.dir (ordered_rule entry)

abbrev pub entry_told : PacketAsked → Option Decider → GroupTold → RuleEntry → RuleTold
entry_told asked decider group entry = rule_told (entries asked.tables.now) asked.facts.now asked.ifid asked.dir decider group (ordered_rule entry)
