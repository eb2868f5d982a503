-- Rules in their order of precedence, and groups behind them as rules of their own.
use Rattle.std.specs.Prelude.{◌≡◌, ◌++◌, true, List, map}
use Rattle.npf_types.specs.declared.direction.Dir.{Dir}
use Rattle.npf_types.specs.declared.facts.Facts.{Facts}
use Rattle.npf_types.specs.declared.interface.IfId.{IfId}
use Rattle.npf_model.specs.declared.group.Group.{Group}
use Rattle.npf_model.specs.declared.rule.Rule.{Rule}
use Rattle.npf_model.specs.Describes.{Tables, describes}
use Rattle.npf_model.specs.Verdict.{matches}
use Rattle.npf_precedence.specs.declared.entry.RuleEntry.{RuleEntry}
use Rattle.npf_precedence.specs.Entry.{ordered_rule}
use Rattle.npf_precedence.specs.Precedence.{in_order}

abbrev pub DescribesEvery : Rule → Type 0
DescribesEvery rule = (tables : Tables) (facts : Facts) (ifid : IfId) (dir : Dir) → describes rule tables facts ifid dir ≡ true

-- a rule that matches every packet to which its group applies
abbrev pub MatchesEvery : RuleEntry → Type 0
MatchesEvery entry = (tables : Tables) (facts : Facts) (ifid : IfId) (dir : Dir) → matches tables facts ifid dir (ordered_rule entry).placed ≡ true

-- the same rule in this group
abbrev pub group_entry : RuleEntry → Group → RuleEntry
group_entry entry group = record entry { group_dir = group.dir; group_on = group.on }

-- the rules of the groups in their order of precedence, and behind them for each group a rule that matches every packet to which the group applies
pub record AreGroupedEntries (groups : List Group) (entries : List RuleEntry) : Type 0 where
  pub order : List RuleEntry
  pub every : RuleEntry
  pub laid : map ordered_rule order ≡ in_order groups
  pub all : MatchesEvery every
  pub are : entries ≡ order ++ map (group_entry every) groups
