-- What is asked of a packet, and of the tables of a configuration.
use Rattle.std.proofs.Common.{◌≡◌, Bool, true, false, not, List, Option, sym, ap, ◌∙◌}
use Rattle.std.specs.{List.find, Option.is_some}
use Rattle.npf_ruleset.specs.{declared.{config.Config.Config, misfit.Part.Part}, Tables.entries}
use Rattle.npf_ruleset.proofs.MisfitLemmas.{matches_without_misfit_lem}
use Rattle.npf_precedence.specs.{declared.entry.RuleEntry.RuleEntry, Entry.ordered_rule, PrecedenceLaw.meets}
use Rattle.npf_explain.specs.{declared.asked.PacketAsked.PacketAsked, Asked.{HasTablesOf, entry_matches, entry_meets, entry_misfit}}

turned : (b some : Bool) → some ≡ not b → b ≡ not some
turned true some is = sym (ap not is)
turned false some is = sym (ap not is)

pub matches_if_fits : (asked : PacketAsked) (entry : RuleEntry) (unfit : Option Part) (b : Bool) → unfit ≡ entry_misfit asked entry → is_some unfit ≡ not b
    → b ≡ entry_matches asked entry
matches_if_fits asked entry unfit b is none =
    turned b (is_some unfit) none ∙ ap (λ (o : Option Part). not (is_some o)) is
    ∙ sym (matches_without_misfit_lem (entries asked.tables.now) asked.facts.now asked.ifid asked.dir (ordered_rule entry).placed)

pub found_by : (config : Config) (asked : PacketAsked) (order : List RuleEntry) (found : Option RuleEntry) → HasTablesOf config asked
    → find (entry_meets asked) order ≡ found
    → find (λ (entry : RuleEntry). meets (entries config.tables.items) asked.facts.now asked.ifid asked.dir (ordered_rule entry)) order ≡ found
found_by config asked order found has is =
    sym (ap (λ tables. find (λ (entry : RuleEntry). meets (entries tables) asked.facts.now asked.ifid asked.dir (ordered_rule entry)) order) has) ∙ is
