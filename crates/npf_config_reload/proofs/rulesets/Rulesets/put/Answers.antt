use Rattle.std.{proofs.{Common.{ℕ, List, Option, Some, option_map, sym, ap, ◌∙◌}, lemmas.Map.Text.hash_map_updates_str}, specs.{HashMap.get_by, Str.bytes_eq}}
use Rattle.npf_config_changes.specs.Rulesets.{Ruleset}
use Rattle.npf_config_reload.specs.{declared.rulesets.Rulesets.Rulesets, Before.ruleset_before}
use Rattle.npf_config_reload.proofs.RulesetLemmas.{chosen_mapped, first_kept, first_put, some_mapped}
use Rattle.npf_config_reload.proofs.rulesets.Rulesets.put.Goals as goal

abbrev found : Rulesets → List ℕ → Option Ruleset
found rulesets text = option_map ruleset_before (get_by (λ key. bytes_eq text key.now) rulesets.first)

pub returns-then-contains_key : goal.returns-then-contains_key
returns-then-contains_key c = λ before finds.
    let was = c.args.self.now in
    let name = c.args.name.now in
    first_kept (found was) (found was) before finds name (ruleset_before c.args.dynamic)
    (some_mapped ruleset_before (get_by (λ key. bytes_eq name key.now) was.first) ∙ sym c.contains_key.ensures ∙ c.if-contains_key.true)

pub returns : goal.returns
returns c = λ before finds.
    let was = c.args.self.now in
    let name = c.args.name.now in
    let dynamic = c.args.dynamic in
    first_put (found was) (λ text. option_map ruleset_before (get_by (λ key. bytes_eq text key.now) c.insert.new.self)) before finds name (ruleset_before dynamic)
    (some_mapped ruleset_before (get_by (λ key. bytes_eq name key.now) was.first) ∙ sym c.contains_key.ensures ∙ c.if-contains_key.false)
    (λ text. ap (option_map ruleset_before) (hash_map_updates_str name was.first c.insert.new.self (Some dynamic) c.in_ok-insert.ensures.updates text)
    ∙ chosen_mapped ruleset_before (bytes_eq name text) (Some dynamic) (get_by (λ key. bytes_eq text key.now) was.first))
