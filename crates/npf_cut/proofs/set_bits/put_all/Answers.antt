use Rattle.std.proofs.{Common.{◌≡◌, ◌≤◌, ◌-◌, ◌+◌, ◌∷◌, [], ◌++◌, ◌↔◌, ◌⊎◌, ℕ, List, true, Contains, get_or, take, subst, sym}, lemmas.List.{take_all, take_more}}
use Rattle.npf_bits.specs.Bits.{has}
use Rattle.npf_cut.proofs.SetBitsLemmas.{has_more}
use Rattle.npf_cut.proofs.set_bits.put_all.Goals as goal

pub loop-number-preserved : goal.loop-number-preserved
loop-number-preserved c =
    let numbers = c.args.numbers.now in
    let at = c.loop-number.number-index in
    let more : take (at + 1) numbers ≡ take at numbers ++ get_or numbers at 0 ∷ [] = take_more numbers at 0 c.loop-number-test.true in
    λ n. subst (λ (l : List ℕ). (has c.insert.new.words n ≡ true) ↔ ((has c.args.words.now n ≡ true) ⊎ ((c.args.first ≤ n) × Contains l (n - c.args.first)))) (sym more)
    (has_more (has c.loop-number.words) (has c.insert.new.words) (has c.args.words.now) (take at numbers) c.args.first (get_or numbers at 0) c.insert.ensures c.loop-number.invariant n)

pub returns-clause-put : goal.returns-clause-put
returns-clause-put c = λ n.
    subst (λ (l : List ℕ). (has c.loop-number.words n ≡ true) ↔ ((has c.args.words.now n ≡ true) ⊎ ((c.args.first ≤ n) × Contains l (n - c.args.first))))
    (take_all c.loop-number.number-index c.args.numbers.now c.loop-number-test.false) (c.loop-number.invariant n)
