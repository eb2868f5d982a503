use Rattle.std.{proofs.{Common.{ℕ, List, ◌∙◌, refl, ap, length}, lemmas.List.{get_or-replicate, length-replicate}}, specs.Prelude.slice_index}
use Rattle.npf_seats.proofs.SumLemmas.{length-numbers_below}
use Rattle.npf_reass.proofs.OpenLemmas.{opens}
use Rattle.npf_reass.proofs.reass.Reass.new.Goals as goal

pub new-requires : goal.new-requires
new-requires c =
    let is = c.as_slice.ensures.value ∙ c.in_ok-words.ensures.items_if_clones_equal (λ y e. e) in
    let zero : ℕ = 0 in
    opens (record { classes = c.args.classes; passes = c.args.passes }) c.as_slice.result.now c.in_ok-slots.slots.items
    (ap length is ∙ length-replicate c.args.classes zero) c.in_ok-slots.ensures.count
    (λ class h. ap (λ (xs : List ℕ). slice_index xs class) is ∙ get_or-replicate c.args.classes class 0 0 h) c.in_ok-slots.ensures.empty

pub returns-in-Ok-clause-first : goal.returns-in-Ok-clause-first
returns-in-Ok-clause-first c = rw c.in-Ok.ensures.ok.4 (rw (length-numbers_below c.args.passes) refl)
