-- What is put in front of a program's end: whether it stays valid, and lists of members.
use Rattle.std.proofs.Common.{◌≡◌, ℕ, zero, suc, ◌+◌, ◌-◌, ◌<◌, ◌≤◌, Bool, true, false, List, [], ◌∷◌, ◌++◌, length, Option, Some, None}
use Rattle.std.{proofs.Common.{IsSomeAnd, refl, sym, ap, subst, ◌∙◌, append_assoc, inl, inr, arith, get_or, drop}, specs.List.list_any}
use Rattle.std.{specs.Prelude.{◌&&◌, ◌||◌, if◌then◌else◌, nat_lt, slice_get}, proofs.{Math.Seq.drop-cons, lemmas.List.length-append}}
use Rattle.std.proofs.lemmas.Bool.{and_parts, false≢true, ltb-true}
use Rattle.npf_bpf.specs.declared.{insn.Insn.Insn, operation.{Arithmetic.TheVariants.{And, ShiftRight}, Operand.TheVariants.Constant, Operation.Operation}}
use Rattle.npf_bpf.specs.declared.operation.Operation.TheVariants.{LoadAbsolute, LoadIndirect, LoadConstant, LoadMemory, LoadIndexMemory, Calculate, JumpIf, ReturnConstant, AskHeader, AskMember}
use Rattle.npf_bpf.specs.{Coprocessor.Coprocessor, Table.decoded, Validity.{IsAllowed, IsInOrder, IsValid, KeepsRules}, Value.value_from}
use Rattle.npf_bpf.proofs.ValueLemmas.{value_behind}
use Rattle.npf_bpfgen.{specs.{Instruction.{jump, return_number}, Tail.{IsValidEnd, Extends, Yields, Guards, Branches}}, proofs.StepLemmas.{jumps, returns}}

-- a test that an operation may stand in front of so many instructions, or of more
abbrev keeps : Operation → ℕ → Bool
keeps (LoadAbsolute width k) after = nat_lt 0 after
keeps (LoadIndirect width k) after = nat_lt 0 after
keeps (LoadConstant k) after = nat_lt 0 after
keeps (LoadMemory k) after = nat_lt k 16 && nat_lt 0 after
keeps (LoadIndexMemory k) after = nat_lt k 16 && nat_lt 0 after
keeps (Calculate And (Constant k)) after = nat_lt 0 after
keeps (Calculate ShiftRight (Constant k)) after = nat_lt 0 after
keeps (JumpIf c o d) after = nat_lt d.on_true after && nat_lt d.on_false after
keeps (ReturnConstant k) after = true
keeps AskHeader after = nat_lt 0 after
keeps AskMember after = nat_lt 0 after
keeps _ after = false

above : (least after : ℕ) → nat_lt 0 least ≡ true → least ≤ after → 0 < after
above least after some more = omega (arith, ltb-true 0 least some)

keeps_allowed : (operation : Operation) (least after : ℕ) → keeps operation least ≡ true
    → least ≤ after → IsAllowed operation after
keeps_allowed (LoadAbsolute width k) least after is more = record { memory = tt; divisor = tt; jumps = tt; last_returns = inl (above least after is more) }
keeps_allowed (LoadIndirect width k) least after is more = record { memory = tt; divisor = tt; jumps = tt; last_returns = inl (above least after is more) }
keeps_allowed (LoadConstant k) least after is more = record { memory = tt; divisor = tt; jumps = tt; last_returns = inl (above least after is more) }
keeps_allowed (LoadMemory k) least after is more =
    let parts = and_parts (nat_lt k 16) (nat_lt 0 least) is in
    record { memory = ltb-true k 16 parts.0; divisor = tt; jumps = tt; last_returns = inl (above least after parts.1 more) }
keeps_allowed (LoadIndexMemory k) least after is more =
    let parts = and_parts (nat_lt k 16) (nat_lt 0 least) is in
    record { memory = ltb-true k 16 parts.0; divisor = tt; jumps = tt; last_returns = inl (above least after parts.1 more) }
keeps_allowed (Calculate And (Constant k)) least after is more = record { memory = tt; divisor = tt; jumps = tt; last_returns = inl (above least after is more) }
keeps_allowed (Calculate ShiftRight (Constant k)) least after is more = record { memory = tt; divisor = tt; jumps = tt; last_returns = inl (above least after is more) }
keeps_allowed (JumpIf c o d) least after is more =
    let parts = and_parts (nat_lt d.on_true least) (nat_lt d.on_false least) is in
    let on_true : d.on_true < after = omega (arith, ltb-true d.on_true least parts.0) in
    let on_false : d.on_false < after = omega (arith, ltb-true d.on_false least parts.1) in
    let some : 0 < after = omega arith in
    record { memory = tt; divisor = tt; jumps = (on_true, on_false); last_returns = inl some }
keeps_allowed (ReturnConstant k) least after is more = record { memory = tt; divisor = tt; jumps = tt; last_returns = inr tt }
keeps_allowed AskHeader least after is more = record { memory = tt; divisor = tt; jumps = tt; last_returns = inl (above least after is more) }
keeps_allowed AskMember least after is more = record { memory = tt; divisor = tt; jumps = tt; last_returns = inl (above least after is more) }
keeps_allowed _ least after is more = absurd (false≢true is)

abbrev some_keeps : Option Operation → ℕ → Bool
some_keeps None after = false
some_keeps (Some operation) after = keeps operation after

some_allowed : (found : Option Operation) (least after : ℕ) → some_keeps found least ≡ true
    → least ≤ after → IsSomeAnd found (λ operation. IsAllowed operation after)
some_allowed None least after is more = absurd (false≢true is)
some_allowed (Some operation) least after is more = keeps_allowed operation least after is more

-- each instruction of a front may stand there, where at least so many instructions come behind it
abbrev pub fits : List Insn → ℕ → Bool
fits [] least = true
fits (insn ∷ front) least = some_keeps (decoded insn) (length front + least) && fits front least

pub fits_valid : (front old : List Insn) (least : ℕ) → fits front least ≡ true → least ≤ length old
    → IsValidEnd old → IsValidEnd (front ++ old)
fits_valid [] old least is more valid = valid
fits_valid (insn ∷ front) old least is more valid =
    let parts = and_parts (some_keeps (decoded insn) (length front + least)) (fits front least) is in (
      some_allowed (decoded insn) (length front + least) (length (front ++ old)) parts.0 (omega (arith, length-append front old)),
      fits_valid front old least parts.1 more valid,
    )

-- a front whose instructions are known
pub extended : (front old new : List Insn) (count least : ℕ) → new ≡ front ++ old
    → fits front least ≡ true → length front ≡ count → Extends count least old new
extended front old new count least is fit size = record {
  front = front;
  is = is;
  size = size;
  valid = λ more valid. subst IsValidEnd (sym is) (fits_valid front old least fit more valid);
}

pub unchanged : (old : List Insn) → Extends 0 1 old old
unchanged old = record { front = []; is = refl; size = refl; valid = λ more valid. valid }

-- the same count in other words
pub counted : (old new : List Insn) (least count same : ℕ) → Extends count least old new → count ≡ same
    → Extends same least old new
counted old new least count same e is = subst (λ (n : ℕ). Extends n least old new) is e

pub grown : (old new : List Insn) (count least : ℕ) → Extends count least old new
    → length new ≡ count + length old
grown old new count least e = ap length e.is ∙ length-append e.front old ∙ ap (λ (n : ℕ). n + length old) e.size

-- one front and then another
pub extended_twice : (old mid new : List Insn) (m n count : ℕ) → Extends m 1 old mid → Extends n 1 mid new
    → m + n ≡ count → Extends count 1 old new
extended_twice old mid new m n count e f sum = record {
  front = f.front ++ e.front;
  is = f.is ∙ ap (λ (t : List Insn). f.front ++ t) e.is ∙ sym (append_assoc f.front e.front old);
  size = omega (arith, e.size, f.size, length-append f.front e.front);
  valid = λ more valid. f.valid (omega (arith, grown old mid m 1 e)) (e.valid more valid);
}

or_chosen : (t b : Bool) (x : ℕ) → (if t then x else (if b then x else 0)) ≡ (if t || b then x else 0)
or_chosen true b x = refl
or_chosen false b x = refl

-- the jump behind a member passes over the rest of its list
module _ (base tail new : List Insn) (n m over : ℕ) (e : Extends n 1 base tail)
    (distance : over ≡ length tail - length base) (f : Extends m 2 (jump over ∷ tail) new) where
  is_front : over ≡ length e.front
  is_front = omega (arith, grown base tail n 1 e, e.size)

  valid_jump : 1 ≤ length base → KeepsRules (jump over) (length tail)
  valid_jump more =
      let within : over < length tail = omega (arith, is_front, grown base tail n 1 e, e.size) in
      let some : 0 < length tail = omega arith in
      record { memory = tt; divisor = tt; jumps = within; last_returns = inl some }

  pub member_extended : (count : ℕ) → n + m + 1 ≡ count → Extends count 1 base new
  member_extended count sum = record {
    front = f.front ++ jump over ∷ e.front;
    is = f.is ∙ ap (λ (t : List Insn). f.front ++ jump over ∷ t) e.is
        ∙ sym (append_assoc f.front (jump over ∷ e.front) base);
    size = omega (arith, e.size, f.size, length-append f.front (jump over ∷ e.front));
    valid = λ more valid.
        f.valid (omega (arith, grown base tail n 1 e)) (valid_jump more, e.valid more valid);
  }

  module _ (p : List ℕ) (cop : Coprocessor) (header : ℕ × ℕ × ℕ) (a : Option ℕ) (any test : Bool) where
    either : (x : ℕ) → (if test then x else (if any then x else 0)) ≡ (if test || any then x else 0)
    either x = or_chosen test any x

    over_rest : (x : ℕ) → Yields p cop header a base 0 x → Yields p cop header a tail over x
    over_rest x y = λ s ready known.
        ap (λ (code : List Insn). value_from code over s p cop) e.is
        ∙ ap (λ (at : ℕ). value_from (e.front ++ base) at s p cop) (let at : over ≡ length e.front + 0 = omega (arith, is_front) in at)
        ∙ value_behind e.front base 0 s p cop
        ∙ y s ready known

    -- some member of the list holds where this one does, or one of the rest
    pub member_guards : Guards p cop header a any base tail
        → Branches p cop header a test (jump over ∷ tail) new
        → Guards p cop header a (test || any) base new
    member_guards rest branches = λ x y.
        subst (λ (number : ℕ). Yields p cop header a new 0 number) (either x)
        (branches x (if any then x else 0)
        (jumps p cop header tail x a over (over_rest x y)) (rest x y))

-- the first of what is left of a list, and the rest
pub any_more : {X : Type 0} (test : X → Bool) (xs : List X) (left more : ℕ) (d : X) → more ≡ suc left
    → left < length xs → list_any test (drop left xs) ≡ (test (get_or xs left d) || list_any test (drop more xs))
any_more {X} test xs left more d next within =
    ap (list_any test) (drop-cons xs left d within ∙ ap (λ (n : ℕ). get_or xs left d ∷ drop n xs) (sym next))

-- behind an instruction that returns, the rest goes on
pub over_return : (p : List ℕ) (cop : Coprocessor) (header : ℕ × ℕ × ℕ) (a : Option ℕ) (tail : List Insn) (x : ℕ)
    → Yields p cop header a tail 0 x → Yields p cop header a (return_number 0 ∷ tail) 1 x
over_return p cop header a tail x y = λ s ready known. value_behind (return_number 0 ∷ []) tail 0 s p cop ∙ y s ready known

-- at the end of a list none of its members has held
pub none_guards : (p : List ℕ) (cop : Coprocessor) (header : ℕ × ℕ × ℕ) (a : Option ℕ) (old new : List Insn)
    → new ≡ return_number 0 ∷ old → Guards p cop header a false old new
none_guards p cop header a old new is = λ x y.
    subst (λ (code : List Insn). Yields p cop header a code 0 0) (sym is) (returns p cop header old 0 a 0)

-- a valid end is a valid program
in_order : (code : List Insn) (at : ℕ) → IsValidEnd code → at < length code → IsInOrder code at
in_order [] at valid within = absurd (omega (arith, within))
in_order (insn ∷ rest) zero valid within =
    subst (KeepsRules insn) (let n : length rest ≡ length (insn ∷ rest) - 1 - 0 = omega arith in n) valid.0
in_order (insn ∷ rest) (suc at) valid within =
    subst (λ (after : ℕ). IsSomeAnd (slice_get rest at) (λ i. KeepsRules i after))
    (let n : length rest - 1 - at ≡ length (insn ∷ rest) - 1 - suc at = omega arith in n)
    (in_order rest at valid.1 (omega arith))

pub valid_program : (code : List Insn) → 0 < length code → length code ≤ 4096 → IsValidEnd code → IsValid code
valid_program code some few valid = record { not_empty = some; not_long = few; each = λ at within. in_order code at valid within }
