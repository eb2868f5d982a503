-- One step of a program, how far it goes on, how many steps there are, and the value behind other
-- instructions.
use Rattle.std.proofs.Common.{◌≡◌, ℕ, zero, suc, ◌+◌, ◌-◌, ◌<◌, ◌≤◌, ◌⊎◌, List, [], ◌∷◌, ◌++◌, length, Option, Some, None, IsSomeAnd, refl, ap, subst, ◌∙◌, ⊎_elim, arith}
use Rattle.std.specs.Prelude.{slice_get, ⊤}
use Rattle.npf_bpf.specs.declared.{insn.Insn.Insn, operation.Operation.Operation}
use Rattle.npf_bpf.specs.declared.operation.Operation.TheVariants.{LoadAbsolute, LoadIndirect, LoadIndexHeader, Calculate, Jump, JumpIf, ReturnConstant, ReturnAccumulator}
use Rattle.npf_bpf.specs.{Table.decoded, Validity.IsAllowed, State.BpfState, Coprocessor.Coprocessor, Load.{loaded, header_length_at}, Arithmetic.calculated}
use Rattle.npf_bpf.specs.Effect.{Effect, Returns, Continues, with_accumulator, with_index, or_return_0, operand_value, effect_of}
use Rattle.npf_bpf.specs.{Value.{executed, followed, value_from, steps_from}, ValueLaw.{TellsValueBehind, StepsWithinLength}}

-- what comes after an effect is seen from a place or from the one before it
followed-shift : (e : Effect) (f g : ℕ → BpfState → ℕ)
    → ((d : ℕ) (t : BpfState) → f d t ≡ g d t) → followed e (λ n. n) f ≡ followed e (λ n. n) g
followed-shift (Returns n) f g same = refl
followed-shift (Continues d t) f g same = same d t

module _ (p : List ℕ) (cop : Coprocessor) where
  -- the instruction at this place does this in this state
  abbrev pub Does : List Insn → ℕ → BpfState → Operation → Effect → Type 0
  Does code at s operation e =
      IsSomeAnd (slice_get code at) (λ insn. decoded insn ≡ Some operation)
      × (effect_of operation s p cop ≡ e)

  -- the value from a place on, by what the operation there leads to
  value-step : (code : List Insn) (at : ℕ) (s : BpfState) (operation : Operation) (e : Effect)
      → Does code at s operation e
      → value_from code at s p cop ≡ followed e (λ n. n)
      (λ d t. value_from code (at + 1 + d) t p cop)
  value-step [] at s operation e does = absurd does.0
  value-step (insn ∷ rest) zero s operation e does =
      let next = λ (d : ℕ) (t : BpfState). value_from rest d t p cop in
      ap (λ x. followed (executed x s p cop) (λ n. n) next) does.0
      ∙ ap (λ x. followed x (λ n. n) next) does.1
      ∙ followed-shift e _ _ (λ d t.
      let n : suc d ≡ 0 + 1 + d = omega arith in ap (λ m. value_from (insn ∷ rest) m t p cop) n)
  value-step (insn ∷ rest) (suc at) s operation e does =
      value-step rest at s operation e does
      ∙ followed-shift e _ _ (λ d t.
      let n : suc (at + 1 + d) ≡ suc at + 1 + d = omega arith in
      ap (λ m. value_from (insn ∷ rest) m t p cop) n)

  -- the value where the operation returns
  pub value-returns : (code : List Insn) (at : ℕ) (s : BpfState) (operation : Operation) (n : ℕ)
      → Does code at s operation (Returns n) → value_from code at s p cop ≡ n
  value-returns code at s operation n does = value-step code at s operation (Returns n) does

  -- the value where it goes on
  pub value-continues : (code : List Insn) (at : ℕ) (s : BpfState) (operation : Operation) (d : ℕ)
      (t : BpfState)
      → Does code at s operation (Continues d t)
      → value_from code at s p cop ≡ value_from code (at + (1 + d)) t p cop
  value-continues code at s operation d t does =
      let n : at + 1 + d ≡ at + (1 + d) = omega arith in
      value-step code at s operation (Continues d t) does ∙ ap (λ m. value_from code m t p cop) n

-- an effect goes on at one of the instructions that come after
abbrev IsWithin : ℕ → Effect → Type 0
IsWithin after (Returns n) = ⊤
IsWithin after (Continues d t) = d < after

falls_through : (after : ℕ) → (0 < after) ⊎ ⊥ → 0 < after
falls_through after h = ⊎_elim (λ lt. lt) (λ no. absurd no) h

IsWithin-or_return_0 : (after : ℕ) (o : Option ℕ) (go : ℕ → Effect)
    → ((n : ℕ) → IsWithin after (go n)) → IsWithin after (or_return_0 o go)
IsWithin-or_return_0 after None go within = tt
IsWithin-or_return_0 after (Some n) go within = within n

module _ (p : List ℕ) (cop : Coprocessor) where
  -- where the rules allow an operation, it doesn't lead out of the program
  effect-within : (operation : Operation) (s : BpfState) (after : ℕ)
      → IsAllowed operation after → IsWithin after (effect_of operation s p cop)
  effect-within (LoadAbsolute width k) s after a =
      IsWithin-or_return_0 after (loaded p width k) (with_accumulator s)
      (λ n. falls_through after a.last_returns)
  effect-within (LoadIndirect width k) s after a =
      IsWithin-or_return_0 after (loaded p width (s.index + k)) (with_accumulator s)
      (λ n. falls_through after a.last_returns)
  effect-within (LoadIndexHeader k) s after a =
      IsWithin-or_return_0 after (header_length_at p k) (with_index s)
      (λ n. falls_through after a.last_returns)
  effect-within (Calculate op o) s after a =
      IsWithin-or_return_0 after (calculated op s.accumulator (operand_value o s))
      (with_accumulator s) (λ n. falls_through after a.last_returns)
  effect-within (Jump k) s after a = a.jumps
  effect-within (JumpIf c o d) s after a = grind arith
  effect-within (ReturnConstant k) s after a = tt
  effect-within ReturnAccumulator s after a = tt
  effect-within operation s after a = falls_through after a.last_returns

  pub distance-within : (operation : Operation) (s : BpfState) (after d : ℕ) (t : BpfState)
      → IsAllowed operation after → effect_of operation s p cop ≡ Continues d t → d < after
  distance-within operation s after d t a e =
      subst (IsWithin after) e (effect-within operation s after a)

-- a step and the steps after it are no more than the instruction and those after it
suc-followed : (after : ℕ) (e : Effect) (next : ℕ → BpfState → ℕ)
    → ((d : ℕ) (t : BpfState) → next d t ≤ after - d) → suc (followed e (λ n. 0) next) ≤ suc after
suc-followed after (Returns n) next h = omega arith
suc-followed after (Continues d t) next h = omega (arith, h d t)

steps-bound : (p : List ℕ) (cop : Coprocessor) (code : List Insn) (i : ℕ) (s : BpfState)
    → steps_from code i s p cop ≤ length code - i
steps-bound p cop [] i s = omega arith
steps-bound p cop (insn ∷ rest) (suc i) s = omega (arith, steps-bound p cop rest i s)
steps-bound p cop (insn ∷ rest) zero s =
    omega (
      arith,
      suc-followed (length rest) (executed (decoded insn) s p cop)
          (λ d t. steps_from rest d t p cop) (λ d t. steps-bound p cop rest d t),
    )

pub steps_within_length : StepsWithinLength
steps_within_length code i s p cop = steps-bound p cop code i s

-- instructions that a distance passes over tell nothing of the value
pub value_behind : TellsValueBehind
value_behind [] rest i s p cop =
    let n : 0 + i ≡ i = omega arith in
    ap (λ m. value_from rest m s p cop) n
value_behind (insn ∷ front) rest i s p cop =
    let n : suc (length front) + i ≡ suc (length front + i) = omega arith in
    ap (λ m. value_from ((insn ∷ front) ++ rest) m s p cop) n ∙ value_behind front rest i s p cop
