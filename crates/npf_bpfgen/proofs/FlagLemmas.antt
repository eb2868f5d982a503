-- The tests of a segment's control bits.
use Rattle.std.proofs.Common.{◌≡◌, ◌≢◌, ℕ, ◌+◌, ◌≤◌, Bool, true, false, List, [], ◌∷◌, ◌++◌, length, Some, None, refl, sym, ap, subst, ◌∙◌, arith}
use Rattle.std.{specs.Prelude.{◌==◌, if◌then◌else◌, bit_and}, proofs.lemmas.Bool.{eq-eqb, ne_eqb, false≢true}}
use Rattle.npf_types.specs.declared.{address.Addr.{Addr, TheVariants.{V4, V6}}, facts.L4.{L4, TheVariants.{Tcp, Udp, Icmp, Icmp6, Other}}}
use Rattle.npf_types.specs.declared.decision.Decision.{Decision, TheVariants.{Pass, Block}}
use Rattle.npf_model.specs.{declared.rule.StateOpt.{StateOpt, TheVariants.{Not, OnInterface, Everywhere}}, Describes.{fits_flags, opens_if_tcp, shows_flags}}
use Rattle.npf_packet.specs.{PacketField.{HasProtocol, HasUpperFields}, Place.least_upper_header}
use Rattle.npf_bpf.specs.{declared.{insn.Insn.Insn, operation.Width.TheVariants.Byte}, Coprocessor.Coprocessor, Load.loaded}
use Rattle.npf_bpfgen.specs.{Condition.asks_opening, Instruction.{if_equal, load_byte_behind, load_index, load_memory, mask_with, return_number}}
use Rattle.npf_bpfgen.specs.{Premise.{GuardsPacket, header_words}, Tail.Yields}
use Rattle.npf_bpfgen.proofs.{StepLemmas.{equal, forget, is_equal, is_unequal, loads_byte_behind, loads_protocol, masks, returns}, WordLemmas.byte_loaded}

abbrev pub bits_test : ℕ → ℕ → List Insn
bits_test mask wanted =
    load_index 1 ∷ load_byte_behind 13 ∷ mask_with mask ∷ if_equal wanted 1 0 ∷ return_number 0 ∷ []

-- `others` is how far it is for what isn't TCP
abbrev pub segment_test : ℕ → ℕ → ℕ → List Insn
segment_test others mask wanted = load_memory 2 ∷ if_equal 6 0 others ∷ bits_test mask wanted

abbrev is_segment : L4 → Bool
is_segment (Tcp sport dport seg mss) = true
is_segment _ = false

not_tcp : (src : Addr) (proto : ℕ) (l4 : L4) → is_segment l4 ≡ false → HasProtocol src proto l4 → proto ≢ 6
not_tcp src proto (Tcp sport dport seg mss) none has = absurd (false≢true (sym none))
not_tcp src proto (Udp sport dport) none has = λ e. omega (arith, has, e)
not_tcp (V4 a) proto (Icmp kind code echo) none has = λ e. omega (arith, has, e)
not_tcp (V6 a) proto (Icmp kind code echo) none has = absurd has
not_tcp (V4 a) proto (Icmp6 kind code echo) none has = absurd has
not_tcp (V6 a) proto (Icmp6 kind code echo) none has = λ e. omega (arith, has, e)
not_tcp (V4 a) proto Other none has = has.0
not_tcp (V6 a) proto Other none has = has.0

module _ (p : List ℕ) (cop : Coprocessor) (header : ℕ × ℕ × ℕ) (old : List Insn) (x : ℕ)
    (y : Yields p cop header None old 0 x) (others mask wanted : ℕ) where
  of_segment : (flags : ℕ) → header.2 ≡ 6 → loaded p Byte (header.1 + 13) ≡ Some flags
      → Yields p cop header None (segment_test others mask wanted ++ old) 0 (if bit_and flags mask == wanted then x else 0)
  of_segment flags proto is =
      let z : ℕ = if bit_and flags mask == wanted then x else 0 in
      let behind = return_number 0 ∷ old in
      loads_protocol p cop header (if_equal 6 0 others ∷ (bits_test mask wanted ++ old)) z None
      (is_equal p cop header (bits_test mask wanted ++ old) z header.2 6 0 others (eq-eqb header.2 6 proto)
      (loads_byte_behind p cop header (mask_with mask ∷ if_equal wanted 1 0 ∷ behind) z (Some header.2) 13 flags is
      (masks p cop header (if_equal wanted 1 0 ∷ behind) z flags mask
      (equal p cop header behind x 0 (bit_and flags mask) wanted 1 0
      (forget p cop header (Some (bit_and flags mask)) old 0 x y)
      (returns p cop header old 0 (Some (bit_and flags mask)) 0)))))

  of_others : (z : ℕ) → header.2 ≢ 6 → Yields p cop header (Some header.2) (bits_test mask wanted ++ old) others z
      → Yields p cop header None (segment_test others mask wanted ++ old) 0 z
  of_others z proto at_others =
      loads_protocol p cop header (if_equal 6 0 others ∷ (bits_test mask wanted ++ old)) z None
      (is_unequal p cop header (bits_test mask wanted ++ old) z header.2 6 0 others (ne_eqb header.2 6 proto) at_others)

module _ (p : List ℕ) (cop : Coprocessor) (header : ℕ × ℕ × ℕ) (old : List Insn) (x : ℕ)
    (y : Yields p cop header None old 0 x) (src : Addr) where
  segment_yields : (wanted mask : ℕ) (l4 : L4) → header.1 + least_upper_header l4 ≤ length p
      → HasUpperFields p header.1 l4 → HasProtocol src header.2 l4
      → Yields p cop header None (segment_test 4 mask wanted ++ old) 0 (if shows_flags l4 wanted mask then x else 0)
  segment_yields wanted mask (Tcp sport dport seg mss) room fields proto =
      of_segment p cop header old x y 4 mask wanted seg.flags proto
      (byte_loaded p (header.1 + 13) (omega (arith, room)) ∙ ap Some fields.flags)
  segment_yields wanted mask (Udp sport dport) room fields proto =
      of_others p cop header old x y 4 mask wanted 0 (not_tcp src header.2 (Udp sport dport) refl proto) (λ s ready known. refl)
  segment_yields wanted mask (Icmp kind code echo) room fields proto =
      of_others p cop header old x y 4 mask wanted 0 (not_tcp src header.2 (Icmp kind code echo) refl proto) (λ s ready known. refl)
  segment_yields wanted mask (Icmp6 kind code echo) room fields proto =
      of_others p cop header old x y 4 mask wanted 0 (not_tcp src header.2 (Icmp6 kind code echo) refl proto) (λ s ready known. refl)
  segment_yields wanted mask Other room fields proto =
      of_others p cop header old x y 4 mask wanted 0 (not_tcp src header.2 Other refl proto) (λ s ready known. refl)

  at_old : Yields p cop header (Some header.2) (bits_test 23 2 ++ old) 5 x
  at_old = λ s ready known. y s ready tt

  opening_yields : (l4 : L4) → header.1 + least_upper_header l4 ≤ length p
      → HasUpperFields p header.1 l4 → HasProtocol src header.2 l4
      → Yields p cop header None (segment_test 5 23 2 ++ old) 0 (if opens_if_tcp l4 then x else 0)
  opening_yields (Tcp sport dport seg mss) room fields proto =
      of_segment p cop header old x y 5 23 2 seg.flags proto
      (byte_loaded p (header.1 + 13) (omega (arith, room)) ∙ ap Some fields.flags)
  opening_yields (Udp sport dport) room fields proto =
      of_others p cop header old x y 5 23 2 x (not_tcp src header.2 (Udp sport dport) refl proto) at_old
  opening_yields (Icmp kind code echo) room fields proto =
      of_others p cop header old x y 5 23 2 x (not_tcp src header.2 (Icmp kind code echo) refl proto) at_old
  opening_yields (Icmp6 kind code echo) room fields proto =
      of_others p cop header old x y 5 23 2 x (not_tcp src header.2 (Icmp6 kind code echo) refl proto) at_old
  opening_yields Other room fields proto =
      of_others p cop header old x y 5 23 2 x (not_tcp src header.2 Other refl proto) at_old

pub segment_guards : (wanted mask : ℕ) (old new : List Insn) → new ≡ segment_test 4 mask wanted ++ old
    → GuardsPacket (λ tables facts. shows_flags facts.l4 wanted mask) old new
segment_guards wanted mask old new is = λ p cop tables facts seen x y.
    let h : ℕ × ℕ × ℕ = header_words facts in
    subst (λ (code : List Insn). Yields p cop h None code 0 (if shows_flags facts.l4 wanted mask then x else 0)) (sym is)
    (segment_yields p cop h old x y facts.src wanted mask facts.l4 seen.packet.upper_header seen.packet.fields.upper seen.packet.protocol)

pub opening_guards : (old new : List Insn) → new ≡ segment_test 5 23 2 ++ old
    → GuardsPacket (λ tables facts. opens_if_tcp facts.l4) old new
opening_guards old new is = λ p cop tables facts seen x y.
    let h : ℕ × ℕ × ℕ = header_words facts in
    subst (λ (code : List Insn). Yields p cop h None code 0 (if opens_if_tcp facts.l4 then x else 0)) (sym is)
    (opening_yields p cop h old x y facts.src facts.l4 seen.packet.upper_header seen.packet.fields.upper seen.packet.protocol)

-- a rule that asks for no flags itself
pub opening_asked : (decision : Decision) (state : StateOpt) (l4 : L4) → asks_opening decision state ≡ true
    → opens_if_tcp l4 ≡ fits_flags None decision state l4
opening_asked (Block answer) state l4 asks = absurd (false≢true asks)
opening_asked Pass Not l4 asks = absurd (false≢true asks)
opening_asked Pass OnInterface l4 asks = refl
opening_asked Pass Everywhere l4 asks = refl

pub nothing_asked : (decision : Decision) (state : StateOpt) (l4 : L4) → asks_opening decision state ≡ false
    → fits_flags None decision state l4 ≡ true
nothing_asked (Block answer) state l4 asks = refl
nothing_asked Pass Not l4 asks = refl
nothing_asked Pass OnInterface l4 asks = absurd (false≢true (sym asks))
nothing_asked Pass Everywhere l4 asks = absurd (false≢true (sym asks))
