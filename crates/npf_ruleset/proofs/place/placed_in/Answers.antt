use Rattle.std.{proofs.Common.{◌≡◌, ◌<◌, Some, List, length, slice_get, refl, sym, subst, ap, ◌∙◌, arith, ℕ, map, get_or}, specs.Option.option_map}
use Rattle.std.proofs.lemmas.{List.length-map, Option.{slice_get_read, slice_get-map}}
use Rattle.npf_model.specs.{declared.rule.Rule.Rule, Verdict.{PlacedRule, rules_at}}
use Rattle.npf_ruleset.proofs.place.placed_in.Goals as goal

-- what a list gives at a place, changed, is what the list gives there, once it is changed
at_place : (place : ℕ × Rule → PlacedRule) (rules : List (ℕ × Rule)) (n : ℕ) (entry : ℕ × Rule) → n < length (map place rules) → entry ≡ get_or rules n entry
    → slice_get (map place rules) n ≡ Some (place entry)
at_place place rules n entry within is =
    let len = length-map rules place in
    slice_get-map place rules n ∙ ap (option_map place) (slice_get_read rules (length rules) n entry refl (omega arith) is)

pub returns-in-Dynamic : goal.returns-in-Dynamic
returns-in-Dynamic c =
    let place : ℕ × Rule → PlacedRule = λ numbered. record { within_dir = c.in-Dynamic.dir; within_on = c.in-Dynamic.on; rule = numbered.1 } in
    let rules : List (ℕ × Rule) = c.as_slice.result.now in
    let are : rules_at c.args.item.now ≡ map place rules = ap rules_at c.in-Dynamic.is ∙ sym (ap (map place) c.as_slice.ensures) in
    ap (λ list. slice_get list c.args.number) are
    ∙ at_place place rules c.args.number c.index-as_slice-number.result (subst (λ list. c.args.number < length list) are c.requires) c.index-as_slice-number.is
    ∙ ap (λ entry. Some (place entry)) c.index-as_slice-number.is
