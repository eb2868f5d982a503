-- What each instruction does to the number that a program's end yields.
use Rattle.std.proofs.Common.{◌≡◌, ℕ, ◌+◌, Bool, true, false, List, ◌∷◌, Option, Some, None, refl, ap, ◌∙◌}
use Rattle.std.specs.Prelude.{◌/◌, ◌%◌, ◌^◌, ◌==◌, if◌then◌else◌, nat_lt, nat_le, slice_index, slice_set, replicate, bit_and}
use Rattle.npf_bpf.specs.{declared.{insn.Insn.Insn, operation.Width.TheVariants.{Word, Half, Byte}}, Coprocessor.Coprocessor}
use Rattle.npf_bpf.specs.{Effect.{or_return_0, with_accumulator}, Load.loaded, State.BpfState, Value.{followed, value_from, program_value}}
use Rattle.npf_bpfgen.specs.Instruction.{load_word, load_half_behind, load_byte_behind, load_constant, load_memory, load_index, mask_with, shift_right, jump}
use Rattle.npf_bpfgen.specs.{Instruction.{if_equal, if_greater, if_at_least, return_number, ask_header, ask_member}, Tail.Yields}

module _ (p : List ℕ) (cop : Coprocessor) (header : ℕ × ℕ × ℕ) where
  -- nothing need be known of A
  pub forget : (a : Option ℕ) (code : List Insn) (at x : ℕ)
      → Yields p cop header None code at x → Yields p cop header a code at x
  forget a code at x y = λ s ready known. y s ready tt

  chosen : (rest : List Insn) (s : BpfState) (test : Bool) (jt jf x y : ℕ)
      → value_from rest jt s p cop ≡ x → value_from rest jf s p cop ≡ y
      → value_from rest (if test then jt else jf) s p cop ≡ (if test then x else y)
  chosen rest s true jt jf x y at_jt at_jf = at_jt
  chosen rest s false jt jf x y at_jt at_jf = at_jf

  module _ (rest : List Insn) (x : ℕ) where
    pub returns : (a : Option ℕ) (k : ℕ) → Yields p cop header a (return_number k ∷ rest) 0 k
    returns a k = λ s ready known. refl

    pub jumps : (a : Option ℕ) (n : ℕ) → Yields p cop header a rest n x
        → Yields p cop header a (jump n ∷ rest) 0 x
    jumps a n y = λ s ready known. y s ready known

    pub loads_version : (a : Option ℕ) → Yields p cop header (Some header.0) rest 0 x
        → Yields p cop header a (load_memory 0 ∷ rest) 0 x
    loads_version a y = λ s ready known.
        y (record s { accumulator = slice_index s.memory 0 }) ready ready.version

    pub loads_protocol : (a : Option ℕ) → Yields p cop header (Some header.2) rest 0 x
        → Yields p cop header a (load_memory 2 ∷ rest) 0 x
    loads_protocol a y = λ s ready known.
        y (record s { accumulator = slice_index s.memory 2 }) ready ready.protocol

    pub loads_word : (a : Option ℕ) (at w : ℕ) → loaded p Word at ≡ Some w
        → Yields p cop header (Some w) rest 0 x
        → Yields p cop header a (load_word at ∷ rest) 0 x
    loads_word a at w is y = λ s ready known.
        ap (λ (o : Option ℕ). followed (or_return_0 o (with_accumulator s)) (λ n. n) (λ d t. value_from rest d t p cop)) is
        ∙ y (record s { accumulator = w }) ready refl

    pub loads_half_behind : (a : Option ℕ) (at w : ℕ) → loaded p Half (header.1 + at) ≡ Some w
        → Yields p cop header (Some w) rest 0 x
        → Yields p cop header a (load_index 1 ∷ load_half_behind at ∷ rest) 0 x
    loads_half_behind a at w is y = λ s ready known.
        let t : BpfState = record s { index = slice_index s.memory 1 } in
        ap (λ (o : Option ℕ). followed (or_return_0 o (with_accumulator t)) (λ n. n) (λ d u. value_from rest d u p cop))
        (ap (λ (index : ℕ). loaded p Half (index + at)) ready.upper ∙ is)
        ∙ y (record t { accumulator = w }) ready refl

    pub loads_byte_behind : (a : Option ℕ) (at w : ℕ) → loaded p Byte (header.1 + at) ≡ Some w
        → Yields p cop header (Some w) rest 0 x
        → Yields p cop header a (load_index 1 ∷ load_byte_behind at ∷ rest) 0 x
    loads_byte_behind a at w is y = λ s ready known.
        let t : BpfState = record s { index = slice_index s.memory 1 } in
        ap (λ (o : Option ℕ). followed (or_return_0 o (with_accumulator t)) (λ n. n) (λ d u. value_from rest d u p cop))
        (ap (λ (index : ℕ). loaded p Byte (index + at)) ready.upper ∙ is)
        ∙ y (record t { accumulator = w }) ready refl

    pub shifts : (v n : ℕ)
        → Yields p cop header (Some (if nat_lt n 32 then v / 2 ^ n else 0)) rest 0 x
        → Yields p cop header (Some v) (shift_right n ∷ rest) 0 x
    shifts v n y = λ s ready known.
        y (record s { accumulator = if nat_lt n 32 then s.accumulator / 2 ^ n else 0 }) ready
        (ap (λ (a : ℕ). if nat_lt n 32 then a / 2 ^ n else 0) known)

    pub masks : (v mask : ℕ) → Yields p cop header (Some (bit_and v mask)) rest 0 x
        → Yields p cop header (Some v) (mask_with mask ∷ rest) 0 x
    masks v mask y = λ s ready known.
        y (record s { accumulator = bit_and s.accumulator mask }) ready
        (ap (λ (a : ℕ). bit_and a mask) known)

    pub asks_member : (a : Option ℕ) (k : ℕ) (has : Bool)
        → cop.member (k % 2 ^ 31) (nat_le (2 ^ 31) k) ≡ has
        → Yields p cop header (Some (if has then 1 else 0)) rest 0 x
        → Yields p cop header a (load_constant k ∷ ask_member ∷ rest) 0 x
    asks_member a k has is y = λ s ready known.
        y (record s { accumulator = if cop.member (k % 2 ^ 31) (nat_le (2 ^ 31) k) then 1 else 0 }) ready
        (ap (λ (b : Bool). if b then 1 else 0) is)

    -- the program begins with the coprocessor's header, so the rest of it is ready
    pub begins : cop.header ≡ header → Yields p cop header None rest 0 x
        → program_value (ask_header ∷ rest) p cop ≡ x
    begins told y =
        y (record {
          accumulator = cop.header.0;
          index = 0;
          memory = slice_set (slice_set (slice_set (replicate 16 0) 0 cop.header.0) 1 cop.header.1) 2 cop.header.2;
        })
        (record {
          version = ap (λ (h : ℕ × ℕ × ℕ). h.0) told;
          upper = ap (λ (h : ℕ × ℕ × ℕ). h.1) told;
          protocol = ap (λ (h : ℕ × ℕ × ℕ). h.2) told;
        }) tt

  module _ (rest : List Insn) (x y : ℕ) (v k jt jf : ℕ)
      (at_jt : Yields p cop header (Some v) rest jt x)
      (at_jf : Yields p cop header (Some v) rest jf y) where
    pub equal : Yields p cop header (Some v) (if_equal k jt jf ∷ rest) 0 (if v == k then x else y)
    equal = λ s ready known.
        chosen rest s (s.accumulator == k) jt jf x y (at_jt s ready known) (at_jf s ready known)
        ∙ ap (λ (a : ℕ). if a == k then x else y) known

    pub greater : Yields p cop header (Some v) (if_greater k jt jf ∷ rest) 0 (if nat_lt k v then x else y)
    greater = λ s ready known.
        chosen rest s (nat_lt k s.accumulator) jt jf x y (at_jt s ready known) (at_jf s ready known)
        ∙ ap (λ (a : ℕ). if nat_lt k a then x else y) known

    pub at_least : Yields p cop header (Some v) (if_at_least k jt jf ∷ rest) 0 (if nat_le k v then x else y)
    at_least = λ s ready known.
        chosen rest s (nat_le k s.accumulator) jt jf x y (at_jt s ready known) (at_jf s ready known)
        ∙ ap (λ (a : ℕ). if nat_le k a then x else y) known

  -- the same where the test's answer is known
  module _ (rest : List Insn) (x : ℕ) (v k jt jf : ℕ) where
    pub is_equal : (v == k) ≡ true → Yields p cop header (Some v) rest jt x
        → Yields p cop header (Some v) (if_equal k jt jf ∷ rest) 0 x
    is_equal holds y = λ s ready known.
        ap (λ (test : Bool). value_from rest (if test then jt else jf) s p cop)
        (ap (λ (a : ℕ). a == k) known ∙ holds)
        ∙ y s ready known

    pub is_unequal : (v == k) ≡ false → Yields p cop header (Some v) rest jf x
        → Yields p cop header (Some v) (if_equal k jt jf ∷ rest) 0 x
    is_unequal fails y = λ s ready known.
        ap (λ (test : Bool). value_from rest (if test then jt else jf) s p cop)
        (ap (λ (a : ℕ). a == k) known ∙ fails)
        ∙ y s ready known
