use Rattle.std.{proofs.{Common.{rules, ◌≡◌, ◌+◌, [], ◌∷◌, ◌++◌, refl, sym, ap, ◌∙◌}, lemmas.List.map-id}, specs.List.range_with_len}
use Rattle.std.proofs.lemmas.List.FromFn.{map-range_with_len_more}
use Rattle.npf_runner.proofs.numbers.numbers_from.Goals as goal

pub loop-place-preserved : goal.loop-place-preserved
loop-place-preserved c =
    let first = c.args.first in
    let place = c.loop-place.place in
    let numbers = c.loop-place.numbers.items in
    let pushed : c.push_reserved.new.self.items ≡ numbers ++ (first + place) ∷ [] = search rules in
    let more : range_with_len first (place + 1) ≡ range_with_len first place ++ (first + place) ∷ [] =
    sym (map-id (range_with_len first (place + 1)))
    ∙ (map-range_with_len_more (λ n. n) first place (first + place) refl ∙ ap (λ ns. ns ++ (first + place) ∷ []) (map-id (range_with_len first place))) in (
      pushed ∙ (ap (λ ns. ns ++ (first + place) ∷ []) c.loop-place.invariant.0 ∙ sym more),
      search rules,
      search rules,
    )
