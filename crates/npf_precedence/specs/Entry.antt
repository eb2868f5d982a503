-- The entry of a rule in the list of all, read as that rule.
use Rattle.std.specs.Prelude.{Bool, not}
use Rattle.npf_precedence.specs.declared.entry.RuleEntry.{RuleEntry}
use Rattle.npf_precedence.specs.Precedence.{OrderedRule}

abbrev pub ordered_rule : RuleEntry → OrderedRule
ordered_rule entry = record {
  place = entry.place;
  group_dir = entry.group_dir;
  group_on = entry.group_on;
  placed = record { within_dir = entry.within_dir; within_on = entry.within_on; rule = entry.rule.now };
}

abbrev pub entry_is_final : RuleEntry → Bool
entry_is_final entry = entry.rule.now.last

abbrev pub entry_is_not_final : RuleEntry → Bool
entry_is_not_final entry = not entry.rule.now.last
