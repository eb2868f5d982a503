use Rattle.std.proofs.{Common.{◌≡◌, ℕ, List, [], ◌∷◌, ◌≢◌, ap, length, sym, subst, ◌∙◌, refl, arith}, lemmas.Bool.{eq-eqb, eqb-true, false≢true}}
use Rattle.npf_bpfgen.{specs.{Instruction.load_memory, ProgramLength.protocols_length, Tail.Extends}, proofs.HeaderLemmas.{listed_length, protocols_guard}}
use Rattle.npf_bpfgen.proofs.TailLemmas.{extended, extended_twice, unchanged}
use Rattle.npf_bpfgen.proofs.header.put_protocols.Goals as goal

empty : {X : Type 0} (xs : List X) → length xs ≡ 0 → xs ≡ []
empty [] none = refl
empty (x ∷ xs) none = cc

pub returns-then-is_empty-clause-front : goal.returns-then-is_empty-clause-front
returns-then-is_empty-clause-front c =
    let none = empty c.args.protos.now (eqb-true (length c.args.protos.now) 0 (sym c.is_empty.ensures ∙ c.if-is_empty.true)) in
    subst (λ (protos : List ℕ). Extends (protocols_length protos) 1 c.args.tail.now c.args.tail.now) (sym none) (unchanged c.args.tail.now)

pub put_numbers-requires : goal.put_numbers-requires
put_numbers-requires c =
    let some : c.args.protos.now ≢ [] = λ e. false≢true (sym c.if-is_empty.false ∙ c.is_empty.ensures ∙ eq-eqb (length c.args.protos.now) 0 (ap length e)) in
    omega (arith, listed_length c.args.protos.now some)

pub returns-clause-front : goal.returns-clause-front
returns-clause-front c =
    let list = c.put_numbers.new.tail in
    let is : c.put.new.self ≡ load_memory 2 ∷ list = rw (c.in_ok-put.ensures) in
    let some : c.args.protos.now ≢ [] = λ e. false≢true (sym c.if-is_empty.false ∙ c.is_empty.ensures ∙ eq-eqb (length c.args.protos.now) 0 (ap length e)) in
    extended_twice c.args.tail.now list c.put.new.self _ 1 _ c.in_ok-put_numbers.ensures.front
    (extended (load_memory 2 ∷ []) list c.put.new.self 1 1 is refl refl) (omega (arith, listed_length c.args.protos.now some))

pub returns-clause-value : goal.returns-clause-value
returns-clause-value c =
    let list = c.put_numbers.new.tail in
    let is : c.put.new.self ≡ load_memory 2 ∷ list = rw (c.in_ok-put.ensures) in
    let some : c.args.protos.now ≢ [] = λ e. false≢true (sym c.if-is_empty.false ∙ c.is_empty.ensures ∙ eq-eqb (length c.args.protos.now) 0 (ap length e)) in
    protocols_guard c.args.protos.now c.args.tail.now list c.put.new.self some c.in_ok-put_numbers.ensures.value is
