use Rattle.std.proofs.{Common.{ℕ, refl, arith}, lemmas.List.length-replicate}
use Rattle.npf_pieces.proofs.OpenSetLemmas.{known_none, zeros}
use Rattle.npf_pieces.proofs.overlap.OpenSet.new.Goals as goal

pub invariant_of-result : goal.invariant_of-result
invariant_of-result c =
    let e = c.in_ok-vec.ensures.items_if_clones_equal (λ y e. e) in
    record {
      order = omega arith;
      narrow = omega arith;
      headed = omega arith;
      sized = rw e (let zero_byte : ℕ = 0 in length-replicate 8192 zero_byte);
      past = zeros c.in_ok-vec.field-0.items e;
    }

pub returns-clause-none : goal.returns-clause-none
returns-clause-none c =
    let h = c.in_ok-vec.ensures in
    known_none _ refl refl refl refl refl (zeros c.in_ok-vec.field-0.items (h.items_if_clones_equal (λ y e. e)))
