-- The first rule of the order of precedence that matches a packet does to it what the configuration does.
use Rattle.std.proofs.Common.{◌≡◌, ℕ, zero, suc, ◌==◌, Bool, true, false, cond, List, [], ◌∷◌, Option, Some, None, map, slice_get, find, refl, sym, subst, ap, ◌∙◌}
use Rattle.std.specs.{List.{All, filter}, Option.{option_and_then, option_map, option_to_list}}
use Rattle.std.proofs.lemmas.Bool.{eq-eqb, false≢true}
use Rattle.std.proofs.lemmas.List.Elements.{All-cons, All-head, All-nil, All-tail}
use Rattle.std.proofs.lemmas.Option.{none-some, same_Some, slice_get-map}
use Rattle.npf_model.specs.Verdict.{PlacedRule, all_rules, rule_at}
use Rattle.npf_precedence.specs.declared.entry.RuleEntry.{RuleEntry}
use Rattle.npf_precedence.specs.{Entry.ordered_rule, Precedence.{OrderedRule, in_order}, PrecedenceLaw.{EachRuleOnce, FirstMatchDecides}}
use Rattle.npf_treatment.specs.Treatment.{rule_effect}
use Rattle.npf_judge.specs.Order.{entry_place, meets_entry}
use Rattle.npf_judge.proofs.{AnswerLemmas.verdict_first, FirstLemmas.{first_found, some_first}}
use Rattle.npf_compare_maps.specs.declared.side.RankedConfig.{RankedConfig}
use Rattle.npf_compare_maps.specs.Side.{IsRanked}

-- ---- what is said of all that a filter keeps is said of each item that passes
module _ {X Y : Type 0} (P : Y → Type 0) (f : X → Y) (test : X → Bool) where
  said_of_first : (b : Bool) (x : X) (rest : List X) → b ≡ true → All P (map f (cond b (x ∷ rest) rest)) → P (f x)
  said_of_first true x rest passes said = All-head P (f x) (map f rest) said
  said_of_first false x rest passes said = absurd (false≢true passes)

  said_of_rest : (b : Bool) (x : X) (rest : List X) → All P (map f (cond b (x ∷ rest) rest)) → All P (map f rest)
  said_of_rest true x rest said = All-tail P (f x) (map f rest) said
  said_of_rest false x rest said = said

  said_of_passing : (xs : List X) (k : ℕ) (x : X) → slice_get xs k ≡ Some x → test x ≡ true → All P (map f (filter test xs)) → P (f x)
  said_of_passing [] k x there passes said = absurd (none-some x there)
  said_of_passing (y ∷ ys) zero x there passes said =
      let same : y ≡ x = same_Some y x there in
      subst (λ z. P (f z)) same (said_of_first (test y) y (filter test ys) (ap test same ∙ passes) said)
  said_of_passing (y ∷ ys) (suc k) x there passes said = said_of_passing ys k x there passes (said_of_rest (test y) y (filter test ys) said)

all_of_option : {X : Type 0} (o : Option X) → All (λ x. o ≡ Some x) (option_to_list o)
all_of_option {X} None = All-nil (λ (y : X). None ≡ Some y)
all_of_option {X} (Some x) = All-cons (λ (y : X). Some x ≡ Some y) x [] refl (All-nil (λ (y : X). Some x ≡ Some y))

-- ---- the rule that decides
module _ (config : RankedConfig) (laid : map ordered_rule config.order.now ≡ in_order config.model.now.groups) (once : EachRuleOnce) where
  -- the rule of an entry is the one that the model has at its place
  entry_rule : (k : ℕ) (entry : RuleEntry) → slice_get config.order.now k ≡ Some entry → rule_at config.model.now entry.place ≡ Some entry.rule.now
  entry_rule k entry there =
      let at_place : OrderedRule → Bool = λ ordered. ordered.place == entry.place in
      let found = slice_get (all_rules config.model.now.groups) entry.place in
      let ordered : slice_get (in_order config.model.now.groups) k ≡ Some (ordered_rule entry) =
      ap (λ all. slice_get all k) (sym laid) ∙ slice_get-map ordered_rule config.order.now k ∙ ap (option_map ordered_rule) there in
      ap (option_map (λ (placed : PlacedRule). placed.rule))
      (said_of_passing (λ placed. found ≡ Some placed) (λ (o : OrderedRule). o.placed) at_place (in_order config.model.now.groups) k (ordered_rule entry) ordered
      (eq-eqb entry.place entry.place refl)
      (subst (All (λ placed. found ≡ Some placed)) (sym (once config.model.now.groups entry.place)) (all_of_option found)))

  found_rule : (k : ℕ) (found : Option RuleEntry) → slice_get config.order.now k ≡ found
      → option_and_then (rule_at config.model.now) (entry_place found) ≡ option_map (λ (entry : RuleEntry). entry.rule.now) found
  found_rule k None there = refl
  found_rule k (Some entry) there = entry_rule k entry there

  pub is_ranked : FirstMatchDecides → IsRanked config
  is_ranked law facts ifid dir =
      let test = meets_entry config.tables.now facts ifid dir in
      let first = some_first test config.order.now in
      ap (rule_effect config.model.now)
      (ap (option_and_then (rule_at config.model.now)) (verdict_first config.tables.now facts ifid dir config.model.now.groups config.order.now laid law)
      ∙ found_rule first.0 (find test config.order.now) (sym (first_found test config.order.now first.0 first.2)))
