use Rattle.std.proofs.{Common.{◌≡◌, ℕ, get_or, arith, rules, Bor}, lemmas.{Fn.always_returns_same, List.{length-map, with_items_is}}}
use Rattle.npf_pieces.specs.declared.piece.Piece.{Piece}
use Rattle.npf_reass.proofs.SortLemmas.{items_of, sort_step}
use Rattle.npf_reass.proofs.reass.sort_each.Goals as goal

pub loop-list-preserved : goal.loop-list-preserved
loop-list-preserved c =
    let i = c.loop-list.list-index in
    let sorted = c.sort_unstable_by_key.new.self in
    let sorts = c.sort_unstable_by_key.ensures in
    let slice = c.as_mut_slice.ensures in
    let step = sort_step c.args.lists.now c.loop-list.lists i c.list-item.result _ sorted (omega arith) c.loop-list.invariant.done c.loop-list.invariant.rest
    (with_items_is (get_or c.loop-list.lists i c.list-item.result) sorted (omega (arith, sorts.len, slice.len)))
    (rw slice.value at sorts.permutation)
    (sorts.sorted (λ (offer : ℕ × Piece). offer.0) (always_returns_same _ (λ (a : Bor (ℕ × Piece) × Unit {0}) (r : ℕ). r ≡ a.0.now.0) _ (λ a r q k. search rules))) in
    record { done = step.0; rest = step.1 }

pub returns : goal.returns
returns c =
    let new = length-map c.loop-list.lists items_of in
    let old = length-map c.args.lists.now items_of in
    record {
      count = omega (arith, new, old, c.loop-list.auto.lists);
      each = λ k d h. (c.loop-list.invariant.done k d (omega (arith, h, old, c.loop-list-test.false))).0;
      sorted = λ k d h. (c.loop-list.invariant.done k d (omega (arith, h, new, c.loop-list.auto.lists, c.loop-list-test.false))).1;
    }
