-- The tests of the header words: the family and the protocols.
use Rattle.std.proofs.Common.{◌≡◌, ◌≢◌, ℕ, ◌+◌, Bool, true, false, List, [], ◌∷◌, ◌++◌, Some, None, refl, sym, ap, subst, ◌∙◌, suc, ◌-◌, ◌<◌, length, get_or, drop, arith}
use Rattle.std.specs.{List.list_any, Prelude.{◌==◌, ◌*◌, if◌then◌else◌, not}}
use Rattle.npf_types.specs.declared.address.Addr.{Addr, TheVariants.{V4, V6}}
use Rattle.npf_model.specs.Describes.{fits_family, fits_protocol}
use Rattle.npf_bpf.specs.declared.insn.Insn.{Insn}
use Rattle.npf_bpfgen.specs.{Instruction.{if_equal, jump, load_memory, return_number}, Premise.{GuardsPacket, header_words, ip_version}}
use Rattle.npf_bpfgen.specs.{Condition.allows_family, ProgramLength.protocols_length, Tail.{Yields, Extends, BranchesOnNumber, GuardsNumber}}
use Rattle.npf_bpfgen.proofs.StepLemmas.{equal, forget, loads_protocol, loads_version, returns}
use Rattle.npf_bpfgen.proofs.{TailLemmas.{any_more, extended, member_extended, member_guards, none_guards}, WordLemmas.eq_turned}

-- the number that stands for a family
abbrev pub version_of_family : Bool → ℕ
version_of_family v6 = if v6 then 6 else 4

abbrev pub family_test : ℕ → List Insn
family_test version = load_memory 0 ∷ if_equal version 1 0 ∷ return_number 0 ∷ []

tells_family : (v6 : Bool) (addr : Addr) → (ip_version addr == (if v6 then 6 else 4)) ≡ fits_family (Some v6) addr
tells_family true (V4 a) = refl
tells_family true (V6 a) = refl
tells_family false (V4 a) = refl
tells_family false (V6 a) = refl

pub family_guards : (v6 : Bool) (version : ℕ) (old new : List Insn) → version ≡ (if v6 then 6 else 4)
    → new ≡ family_test version ++ old
    → GuardsPacket (λ tables facts. fits_family (Some v6) facts.src) old new
family_guards v6 version old new of_family is = λ p cop tables facts seen x y.
    let h : ℕ × ℕ × ℕ = header_words facts in
    let behind = return_number 0 ∷ old in
    let at_true = forget p cop h (Some h.0) old 0 x y in
    let at_false = returns p cop h old 0 (Some h.0) 0 in
    subst (λ (code : List Insn). Yields p cop h None code 0 (if fits_family (Some v6) facts.src then x else 0)) (sym is)
    (subst (λ (t : Bool). Yields p cop h None (family_test version ++ old) 0 (if t then x else 0))
    (ap (λ (n : ℕ). ip_version facts.src == n) of_family ∙ tells_family v6 facts.src)
    (loads_version p cop h (if_equal version 1 0 ∷ behind) (if h.0 == version then x else 0) None
    (equal p cop h behind x 0 h.0 version 1 0 at_true at_false)))

-- one family may be, both or none
allows_one : (v6 : Bool) (addr : Addr) → fits_family (Some v6) addr ≡ allows_family (not v6) v6 addr
allows_one true (V4 a) = refl
allows_one true (V6 a) = refl
allows_one false (V4 a) = refl
allows_one false (V6 a) = refl

allows_both : (addr : Addr) → allows_family true true addr ≡ true
allows_both (V4 a) = refl
allows_both (V6 a) = refl

allows_none : (addr : Addr) → allows_family false false addr ≡ false
allows_none (V4 a) = refl
allows_none (V6 a) = refl

pub version_allows : (v6 : Bool) (old new : List Insn) → GuardsPacket (λ tables facts. fits_family (Some v6) facts.src) old new
    → GuardsPacket (λ tables facts. allows_family (not v6) v6 facts.src) old new
version_allows v6 old new guards = λ p cop tables facts seen x y.
    subst (λ (t : Bool). Yields p cop (header_words facts) None new 0 (if t then x else 0)) (allows_one v6 facts.src) (guards p cop tables facts seen x y)

pub both_allowed : (old : List Insn) → GuardsPacket (λ tables facts. allows_family true true facts.src) old old
both_allowed old = λ p cop tables facts seen x y.
    subst (λ (t : Bool). Yields p cop (header_words facts) None old 0 (if t then x else 0)) (sym (allows_both facts.src)) y

pub none_allowed : (old new : List Insn) → new ≡ return_number 0 ∷ old
    → GuardsPacket (λ tables facts. allows_family false false facts.src) old new
none_allowed old new is = λ p cop tables facts seen x y.
    subst (λ (t : Bool). Yields p cop (header_words facts) None new 0 (if t then x else 0)) (sym (allows_none facts.src))
    (none_guards p cop (header_words facts) None old new is x y)

-- a protocol of a list
pub protocol_branches : (proto : ℕ) (old new : List Insn) → new ≡ if_equal proto 0 1 ∷ old
    → BranchesOnNumber (λ number. proto == number) old new
protocol_branches proto old new is = λ p cop header number first second at_first at_second.
    subst (λ (code : List Insn). Yields p cop header (Some number) code 0 (if proto == number then first else second)) (sym is)
    (subst (λ (t : Bool). Yields p cop header (Some number) (if_equal proto 0 1 ∷ old) 0 (if t then first else second))
    (eq_turned number proto)
    (equal p cop header old first second number proto 0 1 at_first at_second))

pub listed_length : (protos : List ℕ) → protos ≢ [] → 2 + 2 * length protos ≡ protocols_length protos
listed_length [] some = absurd (some refl)
listed_length (first ∷ others) some = refl

-- the list, behind the load of the packet's protocol
pub protocols_guard : (protos : List ℕ) (old list new : List Insn) → protos ≢ []
    → GuardsNumber (λ proto. list_any (λ listed. listed == proto) protos) old list
    → new ≡ load_memory 2 ∷ list
    → GuardsPacket (λ tables facts. fits_protocol protos facts.proto) old new
protocols_guard [] old list new some guards is = absurd (some refl)
protocols_guard (first ∷ others) old list new some guards is = λ p cop tables facts seen x y.
    let h : ℕ × ℕ × ℕ = header_words facts in
    let number : ℕ = if fits_protocol (first ∷ others) facts.proto then x else 0 in
    subst (λ (code : List Insn). Yields p cop h None code 0 number) (sym is)
    (loads_protocol p cop h list number None
    (guards p cop h facts.proto x (forget p cop h (Some facts.proto) old 0 x y)))

-- one more protocol of a list
pub protocols_more : (protos : List ℕ) (left more over : ℕ) (base tail new : List Insn)
    → more ≡ suc left → left < length protos
    → Extends (1 + 2 * (length protos - more)) 1 base tail
    → GuardsNumber (λ proto. list_any (λ listed. listed == proto) (drop more protos)) base tail
    → over ≡ length tail - length base
    → new ≡ if_equal (get_or protos left 0) 0 1 ∷ jump over ∷ tail
    → Extends (1 + 2 * (length protos - left)) 1 base new
    × GuardsNumber (λ proto. list_any (λ listed. listed == proto) (drop left protos)) base new
protocols_more protos left more over base tail new next within e guards distance is =
    let proto : ℕ = get_or protos left 0 in
    let f : Extends 1 2 (jump over ∷ tail) new =
    extended (if_equal proto 0 1 ∷ []) (jump over ∷ tail) new 1 2 is refl refl in (
      member_extended base tail new (1 + 2 * (length protos - more)) 1 over e distance f _ (omega arith),
      λ p cop header number x y.
          subst (λ (t : Bool). Yields p cop header (Some number) new 0 (if t then x else 0))
          (sym (any_more (λ listed. listed == number) protos left more 0 next within))
          (member_guards base tail new (1 + 2 * (length protos - more)) 1 over e distance f p cop header (Some number)
          (list_any (λ listed. listed == number) (drop more protos)) (proto == number) (guards p cop header number)
          (protocol_branches proto (jump over ∷ tail) new is p cop header number) x y),
    )
