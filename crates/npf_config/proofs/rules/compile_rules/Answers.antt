use Rattle.std.proofs.{Common.{◌≡◌, ◌<◌, ℕ, Some, List, length, slice_get, refl, subst, ap, ◌∙◌, ◌∷◌, arith}, lemmas.List.length-append}
use Rattle.std.proofs.lemmas.Option.{slice_get_read}
use Rattle.npf_types.specs.declared.span.Span.{Span}
use Rattle.npf_model.specs.Verdict.{PlacedRule}
use Rattle.npf_ruleset.specs.Refusal.{IsFirstHeavy}
use Rattle.npf_config.specs.{Refusal.{too_heavy, too_much}, RulePlaces.inspected_places}
use Rattle.npf_config.proofs.rules.compile_rules.Goals as goal

heavy_within : (rules : List PlacedRule) (place weight : ℕ) → IsFirstHeavy rules place weight → place < length rules
heavy_within rules place weight is =
    let all = ap length is.are ∙ length-append is.before (is.heavy ∷ is.behind) in
    let at = is.at in
    omega arith

pub returns-in_ok-places-in-Err-TooLong-clause-refuses : goal.returns-in_ok-places-in-Err-TooLong-clause-refuses
returns-in_ok-places-in-Err-TooLong-clause-refuses c =
    let first = rw c.in-Err-TooLong.field-0-is at c.in-Err-TooLong.ensures.refuses in
    let places = c.in_ok-places-in-Err-TooLong.places.items in
    let rule = c.in-Err-TooLong.rule in
    let span = c.index.result.now in
    let named : places ≡ inspected_places c.args.tree.now.stmts = c.in_ok-places-in-Err-TooLong.ensures ∙ ap inspected_places c.as_slice.ensures in
    let below = heavy_within _ rule c.in-Err-TooLong.weight first in
    let many = c.requires.places in
    let same = ap length named in
    let within : rule < length places = omega arith in
    let there : slice_get (inspected_places c.args.tree.now.stmts) rule ≡ Some span =
    subst (λ (all : List Span). slice_get all rule ≡ Some span) named (slice_get_read places (length places) rule span refl within c.index.ensures) in
    rw c.at.ensures (too_heavy rule c.in-Err-TooLong.weight span first there)

pub returns-in-Err-TooMuch-clause-refuses : goal.returns-in-Err-TooMuch-clause-refuses
returns-in-Err-TooMuch-clause-refuses c =
    let count = rw c.in-Err-TooMuch.field-0-is at c.in-Err-TooMuch.ensures.refuses in
    rw c.at-in-Err-TooMuch.ensures (too_much c.in-Err-TooMuch.count count)
