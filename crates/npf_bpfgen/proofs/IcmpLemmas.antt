-- The tests of ICMP's type and code.
use Rattle.std.proofs.Common.{◌≡◌, ◌≢◌, ℕ, ◌+◌, ◌≤◌, Bool, true, false, List, [], ◌∷◌, ◌++◌, length, Option, Some, None, refl, sym, ap, subst, ◌∙◌, arith, ⊎_elim}
use Rattle.std.{specs.Prelude.{◌==◌, ◌&&◌, if◌then◌else◌}, proofs.lemmas.Bool.{cases_eq, eq-eqb, ne_eqb}}
use Rattle.npf_types.specs.declared.{address.Addr.{Addr, TheVariants.{V4, V6}}, facts.L4.{L4, TheVariants.{Tcp, Udp, Icmp, Icmp6, Other}}}
use Rattle.npf_model.specs.Describes.{fits_icmp, is_message}
use Rattle.npf_packet.specs.{PacketField.{HasProtocol, HasUpperFields}, Place.least_upper_header}
use Rattle.npf_bpf.specs.{declared.{insn.Insn.Insn, operation.Width.TheVariants.Byte}, Coprocessor.Coprocessor, Load.loaded}
use Rattle.npf_bpfgen.specs.Instruction.{if_equal, if_message, if_version_4, if_version_6, load_byte_behind, load_index, return_number}
use Rattle.npf_bpfgen.specs.{Premise.{GuardsPacket, header_words, ip_version}, Tail.Yields}
use Rattle.npf_bpfgen.proofs.StepLemmas.{equal, forget, is_equal, is_unequal, loads_byte_behind, loads_protocol, loads_version, returns}
use Rattle.npf_bpfgen.proofs.WordLemmas.{byte_loaded, eq_turned}

abbrev pub type_test : ℕ → List Insn
type_test asked = load_index 1 ∷ load_byte_behind 0 ∷ if_equal asked 1 0 ∷ return_number 0 ∷ []

abbrev pub code_test : ℕ → List Insn
code_test number = load_index 1 ∷ load_byte_behind 1 ∷ if_equal number 1 0 ∷ return_number 0 ∷ []

abbrev pub type_and_code_test : ℕ → ℕ → List Insn
type_and_code_test asked number = load_index 1 ∷ load_byte_behind 0 ∷ if_equal asked 0 3 ∷ code_test number

module _ (p : List ℕ) (cop : Coprocessor) (header : ℕ × ℕ × ℕ) (rest : List Insn) where
  of_icmp : (z : ℕ) → header.0 ≡ 4 → header.2 ≡ 1 → Yields p cop header None rest 0 z
      → Yields p cop header None (if_message rest) 0 z
  of_icmp z version proto y =
      loads_protocol p cop header (if_equal 58 0 2 ∷ if_version_6 rest) z None
      (is_unequal p cop header (if_version_6 rest) z header.2 58 0 2 (ap (λ (n : ℕ). n == 58) proto)
      (is_equal p cop header (if_version_4 rest) z header.2 1 0 2 (eq-eqb header.2 1 proto)
      (loads_version p cop header (if_equal 4 1 0 ∷ return_number 0 ∷ rest) z (Some header.2)
      (is_equal p cop header (return_number 0 ∷ rest) z header.0 4 1 0 (eq-eqb header.0 4 version)
      (forget p cop header (Some header.0) rest 0 z y)))))

  of_icmpv6 : (z : ℕ) → header.0 ≡ 6 → header.2 ≡ 58 → Yields p cop header None rest 0 z
      → Yields p cop header None (if_message rest) 0 z
  of_icmpv6 z version proto y =
      loads_protocol p cop header (if_equal 58 0 2 ∷ if_version_6 rest) z None
      (is_equal p cop header (if_version_6 rest) z header.2 58 0 2 (eq-eqb header.2 58 proto)
      (loads_version p cop header (if_equal 6 4 3 ∷ if_equal 1 0 2 ∷ if_version_4 rest) z (Some header.2)
      (is_equal p cop header (if_equal 1 0 2 ∷ if_version_4 rest) z header.0 6 4 3 (eq-eqb header.0 6 version)
      (forget p cop header (Some header.0) rest 0 z y))))

  -- neither of them
  of_others : (header.2 ≡ 58 → header.0 ≢ 6) → (header.2 ≡ 1 → header.0 ≢ 4)
      → Yields p cop header None (if_message rest) 0 0
  of_others not_v6 not_v4 =
      loads_protocol p cop header (if_equal 58 0 2 ∷ if_version_6 rest) 0 None
      (⊎_elim
      (λ (is_58 : header.2 ≡ 58).
      is_equal p cop header (if_version_6 rest) 0 header.2 58 0 2 (eq-eqb header.2 58 is_58)
      (loads_version p cop header (if_equal 6 4 3 ∷ if_equal 1 0 2 ∷ if_version_4 rest) 0 (Some header.2)
      (is_unequal p cop header (if_equal 1 0 2 ∷ if_version_4 rest) 0 header.0 6 4 3 (ne_eqb header.0 6 (not_v6 is_58))
      (λ s ready known. refl))))
      (λ (not_58 : header.2 ≢ 58).
      is_unequal p cop header (if_version_6 rest) 0 header.2 58 0 2 (ne_eqb header.2 58 not_58)
      (⊎_elim
      (λ (is_1 : header.2 ≡ 1).
      is_equal p cop header (if_version_4 rest) 0 header.2 1 0 2 (eq-eqb header.2 1 is_1)
      (loads_version p cop header (if_equal 4 1 0 ∷ return_number 0 ∷ rest) 0 (Some header.2)
      (is_unequal p cop header (return_number 0 ∷ rest) 0 header.0 4 1 0 (ne_eqb header.0 4 (not_v4 is_1))
      (λ s ready known. refl))))
      (λ (not_1 : header.2 ≢ 1).
      is_unequal p cop header (if_version_4 rest) 0 header.2 1 0 2 (ne_eqb header.2 1 not_1) (λ s ready known. refl))
      (cases_eq header.2 1)))
      (cases_eq header.2 58))

module _ (p : List ℕ) (cop : Coprocessor) (header : ℕ × ℕ × ℕ) (old : List Insn) (x : ℕ)
    (y : Yields p cop header None old 0 x) where
  -- a byte of the message, in front of `return 0`
  byte_yields : (a : Option ℕ) (at asked byte : ℕ) → loaded p Byte (header.1 + at) ≡ Some byte
      → Yields p cop header a (load_index 1 ∷ load_byte_behind at ∷ if_equal asked 1 0 ∷ return_number 0 ∷ old) 0 (if asked == byte then x else 0)
  byte_yields a at asked byte is =
      subst (λ (t : Bool). Yields p cop header a (load_index 1 ∷ load_byte_behind at ∷ if_equal asked 1 0 ∷ return_number 0 ∷ old) 0 (if t then x else 0))
      (eq_turned byte asked)
      (loads_byte_behind p cop header (if_equal asked 1 0 ∷ return_number 0 ∷ old) (if byte == asked then x else 0) a at byte is
      (equal p cop header (return_number 0 ∷ old) x 0 byte asked 1 0
      (forget p cop header (Some byte) old 0 x y) (returns p cop header old 0 (Some byte) 0)))

  two_chosen : (a b : Bool) → (if a then (if b then x else 0) else 0) ≡ (if a && b then x else 0)
  two_chosen true b = refl
  two_chosen false b = refl

  both_yield : (asked number kind code : ℕ) → loaded p Byte (header.1 + 0) ≡ Some kind → loaded p Byte (header.1 + 1) ≡ Some code
      → Yields p cop header None (type_and_code_test asked number ++ old) 0 (if is_message asked (Some number) kind code then x else 0)
  both_yield asked number kind code type_is code_is =
      let z : ℕ = if number == code then x else 0 in
      let behind = code_test number ++ old in
      subst (Yields p cop header None (type_and_code_test asked number ++ old) 0)
      (ap (λ (t : Bool). if t then z else 0) (eq_turned kind asked) ∙ two_chosen (asked == kind) (number == code))
      (loads_byte_behind p cop header (if_equal asked 0 3 ∷ behind) (if kind == asked then z else 0) None 0 kind type_is
      (equal p cop header behind z 0 kind asked 0 3
      (byte_yields (Some kind) 1 number code code_is) (λ s ready known. refl)))

-- ICMP of either version, with a test of the message
module _ (p : List ℕ) (cop : Coprocessor) (header : ℕ × ℕ × ℕ) (rest : List Insn) (x asked : ℕ) (number : Option ℕ)
    (test : (kind code : ℕ) → loaded p Byte (header.1 + 0) ≡ Some kind → loaded p Byte (header.1 + 1) ≡ Some code
    → Yields p cop header None rest 0 (if is_message asked number kind code then x else 0)) where
  icmp_yields : (src : Addr) (l4 : L4) → header.0 ≡ ip_version src → header.1 + least_upper_header l4 ≤ length p
      → HasUpperFields p header.1 l4 → HasProtocol src header.2 l4
      → Yields p cop header None (if_message rest) 0 (if fits_icmp (Some (asked, number)) l4 then x else 0)
  icmp_yields src (Tcp sport dport seg mss) version room fields proto =
      of_others p cop header rest (λ e. absurd (omega (arith, e, proto))) (λ e. absurd (omega (arith, e, proto)))
  icmp_yields src (Udp sport dport) version room fields proto =
      of_others p cop header rest (λ e. absurd (omega (arith, e, proto))) (λ e. absurd (omega (arith, e, proto)))
  icmp_yields (V4 a) (Icmp kind code echo) version room fields proto =
      of_icmp p cop header rest (if is_message asked number kind code then x else 0) version proto
      (test kind code (byte_loaded p (header.1 + 0) (omega (arith, room)) ∙ ap Some fields.0.message_type)
      (byte_loaded p (header.1 + 1) (omega (arith, room)) ∙ ap Some fields.0.message_code))
  icmp_yields (V6 a) (Icmp kind code echo) version room fields proto = absurd proto
  icmp_yields (V4 a) (Icmp6 kind code echo) version room fields proto = absurd proto
  icmp_yields (V6 a) (Icmp6 kind code echo) version room fields proto =
      of_icmpv6 p cop header rest (if is_message asked number kind code then x else 0) version proto
      (test kind code (byte_loaded p (header.1 + 0) (omega (arith, room)) ∙ ap Some fields.0.message_type)
      (byte_loaded p (header.1 + 1) (omega (arith, room)) ∙ ap Some fields.0.message_code))
  icmp_yields (V4 a) Other version room fields proto =
      of_others p cop header rest (λ e v. omega (arith, version, v)) (λ e. absurd (proto.2 e))
  icmp_yields (V6 a) Other version room fields proto =
      of_others p cop header rest (λ e. absurd (proto.2 e)) (λ e v. omega (arith, version, v))

pub type_guards : (asked : ℕ) (old new : List Insn) → new ≡ if_message (type_test asked ++ old)
    → GuardsPacket (λ tables facts. fits_icmp (Some (asked, None)) facts.l4) old new
type_guards asked old new is = λ p cop tables facts seen x y.
    let h : ℕ × ℕ × ℕ = header_words facts in
    subst (λ (code : List Insn). Yields p cop h None code 0 (if fits_icmp (Some (asked, None)) facts.l4 then x else 0)) (sym is)
    (icmp_yields p cop h (type_test asked ++ old) x asked None (λ kind code type_is code_is. byte_yields p cop h old x y None 0 asked kind type_is)
    facts.src facts.l4 refl seen.packet.upper_header seen.packet.fields.upper seen.packet.protocol)

pub type_and_code_guards : (asked number : ℕ) (old new : List Insn) → new ≡ if_message (type_and_code_test asked number ++ old)
    → GuardsPacket (λ tables facts. fits_icmp (Some (asked, Some number)) facts.l4) old new
type_and_code_guards asked number old new is = λ p cop tables facts seen x y.
    let h : ℕ × ℕ × ℕ = header_words facts in
    subst (λ (code : List Insn). Yields p cop h None code 0 (if fits_icmp (Some (asked, Some number)) facts.l4 then x else 0)) (sym is)
    (icmp_yields p cop h (type_and_code_test asked number ++ old) x asked (Some number) (both_yield p cop h old x y asked number)
    facts.src facts.l4 refl seen.packet.upper_header seen.packet.fields.upper seen.packet.protocol)
