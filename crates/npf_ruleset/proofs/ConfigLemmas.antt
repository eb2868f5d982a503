-- What a flat rule of a configuration says of the rule at its place.
use Rattle.std.{proofs.Common.{◌≡◌, ◌<◌, ℕ, Some, length, get_or, slice_get, refl, sym, subst, ap, ◌∙◌, arith}, specs.{Prelude.unwrap_or, Option.option_map}}
use Rattle.std.proofs.lemmas.Option.{slice_get-map, slice_get_read, slice_get_within}
use Rattle.npf_model.specs.Verdict.{PlacedRule, all_rules, rule_at}
use Rattle.npf_ruleset.specs.{declared.{config.Config.Config, flat.FlatRule.FlatRule}, Flat.{IsCompiled, IsFlatRule, programs_of}}
use Rattle.npf_ruleset.{specs.{Place.{IsPlaceOfRule, placed_at}, RuleAt.{IsProgramAt}}, proofs.PairLemmas.{drop_here, zip_each}}

module _ (config : Config) (i : ℕ) (flat : FlatRule) (within : i < length (all_rules config.model.groups)) (is : flat ≡ get_or config.rules i flat) where
  there : (placed : PlacedRule) × (slice_get (all_rules config.model.groups) i ≡ Some placed)
  there = let found = drop_here (all_rules config.model.groups) i within in (found.0, found.2)

  read : slice_get config.rules i ≡ Some flat
  read = let len = config.flat.rule_count in slice_get_read config.rules (length config.rules) i flat refl (omega arith) is

  stands : IsFlatRule config.model.groups there.0 flat
  stands = config.flat.each_rule i there.0 flat there.1 read

  pub has_program : IsProgramAt config.model i flat.program
  has_program = λ rule at.
      let same : there.0.rule ≡ rule = ap (λ o. unwrap_or o there.0.rule) (sym (ap (option_map (λ placed. placed.rule)) there.1) ∙ at) in
      let here = slice_get-map (λ (one : FlatRule). one.program) config.rules i ∙ ap (option_map (λ (one : FlatRule). one.program)) read in
      subst (λ r. IsCompiled r flat.program) same
      (zip_each (λ (placed : PlacedRule). IsCompiled placed.rule) (all_rules config.model.groups) (programs_of config.rules) config.limits.compiled.each i there.0 flat.program there.1 here)

  pub is_placed : IsPlaceOfRule config.model.groups flat.place
  is_placed = slice_get_within _ flat.place.number there.0 stands.place

  pub has_rule : (placed : PlacedRule) → placed_at config.model.groups flat.place ≡ Some placed → rule_at config.model i ≡ Some placed.rule
  has_rule placed at = ap (option_map (λ p. p.rule)) (there.1 ∙ sym stands.place ∙ at)
