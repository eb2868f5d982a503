-- The fields that are normalised.
use Rattle.std.proofs.Common.{◌≡◌, ℕ, ◌+◌, ◌-◌, ◌*◌, ◌<◌, ◌≤◌, Bool, true, false, Option, Some, None, List, [], ◌∷◌, length, refl, ap, ◌∙◌, subst, inl, inr, arith}
use Rattle.std.{proofs.lemmas.Bool.Decides.nat_tests, specs.Prelude.{◌==◌, ◌/◌, ◌%◌, ◌^◌, IfSome, max, min, nat_lt, if◌then◌else◌, slice_index}}
use Rattle.npf_fields.specs.Field.{number16}
use Rattle.npf_types.specs.declared.{action.Action.Action, address.Addr.{Addr, TheVariants.{V4, V6}}, facts.{Facts.Facts, L4.{L4, TheVariants.Tcp}}}
use Rattle.npf_types.specs.declared.facts.Segment.{Segment}
use Rattle.npf_packet.specs.Place.{HasOptionAt, IsAmongOptions, least_ip_header}
use Rattle.npf_rewrite.specs.{declared.word.WordAt.WordAt, Normalised.{Normalised, cleared_fragment, joined, lowered_mss, raised_ttl, segment_sum}}
use Rattle.npf_rewrite.specs.{NormalisedFacts.ActionFits, NormalisedFields.{NormalisedHasFields, no_less, no_more, time_to_live}, Room.HasRoom}
use Rattle.npf_rewrite.{specs.{Verified.HasBytes, Word.{byte_there, word, word_list}}, proofs.NormalisedHeaderLemmas.{cleared-v4, fragment-byte, header-is}}
use Rattle.npf_rewrite.proofs.{NormalisedLemmas.{carried-is, segment_sum-between}, TotalLemmas.{after-elsewhere, byte_after-lower, byte_after-upper}}

-- a byte that is raised
raised-byte : (w : WordAt) (k x least : ℕ) (b : Bool) → nat_lt x least ≡ b → byte_there (w ∷ []) k x ≡ least
    → byte_there (word_list (if b then Some w else None)) k x ≡ max least x
raised-byte w k x least true is there = grind (arith, nat_tests, there)
raised-byte w k x least false is there = grind (arith, nat_tests)

ttl-v4 : (bytes : List ℕ) (ip a : ℕ) (least : Option ℕ) → HasBytes bytes
    → byte_there (word_list (raised_ttl bytes ip (V4 a) least)) (ip + 8) (slice_index bytes (ip + 8))
    ≡ no_less least (slice_index bytes (ip + 8))
ttl-v4 bytes ip a (Some least) small =
    let w = word (ip + 8) (joined least (slice_index bytes (ip + 9))) in
    let upper = byte_after-upper w (ip + 8) (slice_index bytes (ip + 8)) refl in
    raised-byte w (ip + 8) (slice_index bytes (ip + 8)) least _ refl (omega (arith, upper, small (ip + 9)))
ttl-v4 bytes ip a None small = refl

ttl-v6 : (bytes : List ℕ) (ip a : ℕ) (least : Option ℕ) → IfSome least (λ n. n < 2 ^ 8)
    → byte_there (word_list (raised_ttl bytes ip (V6 a) least)) (ip + 7) (slice_index bytes (ip + 7))
    ≡ no_less least (slice_index bytes (ip + 7))
ttl-v6 bytes ip a (Some least) fits =
    let w = word (ip + 6) (joined (slice_index bytes (ip + 6)) least) in
    let lower = byte_after-lower w (ip + 7) (slice_index bytes (ip + 7)) (omega arith) in
    raised-byte w (ip + 7) (slice_index bytes (ip + 7)) least _ refl (omega (arith, lower, fits))
ttl-v6 bytes ip a None fits = refl

-- the bit "don't fragment", where it is cleared
cleared-bit : (at x y : ℕ) (b : Bool) → ((2 ^ 8 * x + y) / 0x4000 % 2 == 1) ≡ b
    → (let ws = word_list (if b then Some (word at (2 ^ 8 * x + y - 0x4000)) else None) in
    (2 ^ 8 * byte_there ws at x + byte_there ws (at + 1) y) / 0x4000 % 2) ≡ 0
cleared-bit at x y true is =
    let w = word at (2 ^ 8 * x + y - 0x4000) in
    let set : (2 ^ 8 * x + y) / 0x4000 % 2 ≡ 1 = grind (arith, nat_tests) in
    let upper = byte_after-upper w at x refl in
    let lower = byte_after-lower w (at + 1) y refl in
    omega (arith, set, upper, lower)
cleared-bit at x y false is =
    let clear : (2 ^ 8 * x + y) / 0x4000 % 2 ≡ 0 = grind (arith, nat_tests) in
    clear

-- the number of a maximum segment size
lowered-number : (at most x y : ℕ) (b : Bool) → nat_lt most (2 ^ 8 * x + y) ≡ b
    → (let ws = word_list (if b then Some (word at most) else None) in
    2 ^ 8 * byte_there ws at x + byte_there ws (at + 1) y) ≡ min most (2 ^ 8 * x + y)
lowered-number at most x y true is =
    let w = word at most in
    let upper = byte_after-upper w at x refl in
    let lower = byte_after-lower w (at + 1) y refl in
    grind (arith, nat_tests, upper, lower)
lowered-number at most x y false is = grind (arith, nat_tests)

lowered-size : (bytes : List ℕ) (sport dport at : ℕ) (seg : Segment) (most : Option ℕ) → seg.flags / 2 % 2 ≡ 1
    → (let ws = word_list (lowered_mss bytes (Tcp sport dport seg (Some at)) most) in
    2 ^ 8 * byte_there ws at (slice_index bytes at) + byte_there ws (at + 1) (slice_index bytes (at + 1)))
    ≡ no_more most (number16 bytes at)
lowered-size bytes sport dport at seg (Some most) syn = by_flag (seg.flags / 2 % 2 == 1) refl where
  by_flag : (b : Bool) → (seg.flags / 2 % 2 == 1) ≡ b
      → (let ws = word_list (if b then (if nat_lt most (number16 bytes at) then Some (word at most) else None) else None) in
      2 ^ 8 * byte_there ws at (slice_index bytes at) + byte_there ws (at + 1) (slice_index bytes (at + 1)))
      ≡ min most (number16 bytes at)
  by_flag true is = lowered-number at most (slice_index bytes at) (slice_index bytes (at + 1)) _ refl
  by_flag false is = absurd (grind (arith, nat_tests, syn, is))
lowered-size bytes sport dport at seg None syn = refl

module _ (bytes normalised : List ℕ) (small : HasBytes bytes) (facts : Facts) (action : Action)
    (fits : ActionFits action) (room : HasRoom (length bytes) facts)
    (n : Normalised bytes facts action normalised) where
  abbrev ip : ℕ
  ip = facts.ip_at

  abbrev f : ℕ → ℕ
  f = slice_index bytes

  ttl-by : (src : Addr) → facts.src ≡ src
      → time_to_live normalised ip src ≡ no_less action.min_ttl (time_to_live bytes ip src)
  ttl-by (V4 a) e =
      let fragment = word_list (cleared_fragment bytes ip (V4 a) action.no_df) in
      let ttl = word_list (raised_ttl bytes ip (V4 a) action.min_ttl) in
      header-is bytes normalised small facts action fits room n (V4 a) e (ip + 8)
      (omega (arith, room.upper, ap least_ip_header e))
      ∙ after-elsewhere (ip + 10) (ip + 12) (word _ _ ∷ []) (λ _. byte_there fragment (ip + 8) (byte_there ttl (ip + 8) (f (ip + 8))))
      (ip + 8) (omega arith, (omega arith, tt)) (inl (omega arith))
      ∙ after-elsewhere (ip + 6) (ip + 8) fragment (λ _. byte_there ttl (ip + 8) (f (ip + 8))) (ip + 8)
      (cleared-v4 bytes ip a action.no_df) (inr (omega arith))
      ∙ ttl-v4 bytes ip a action.min_ttl small
  ttl-by (V6 a) e =
      header-is bytes normalised small facts action fits room n (V6 a) e (ip + 7)
      (omega (arith, room.upper, ap least_ip_header e))
      ∙ ttl-v6 bytes ip a action.min_ttl fits.ttl

  whole-by : (a : ℕ) → facts.src ≡ V4 a → action.no_df ≡ true → number16 normalised (ip + 6) / 0x4000 % 2 ≡ 0
  whole-by a e clear =
      let ws = word_list (cleared_fragment bytes ip (V4 a) true) in
      let byte = λ (k : ℕ) (below : k < ip + 8).
      fragment-byte bytes normalised small facts action fits room n a e k below
      ∙ ap (λ b. byte_there (word_list (cleared_fragment bytes ip (V4 a) b)) k (f k)) clear in
      let upper = byte (ip + 6) (omega arith) in
      let lower = byte (ip + 6 + 1) (omega arith) in
      let both : number16 normalised (ip + 6) ≡ 2 ^ 8 * byte_there ws (ip + 6) (f (ip + 6))
      + byte_there ws (ip + 6 + 1) (f (ip + 6 + 1)) = omega (arith, upper, lower) in
      ap (λ (x : ℕ). x / 0x4000 % 2) both ∙ cleared-bit (ip + 6) (f (ip + 6)) (f (ip + 6 + 1)) _ refl

  size-by : (sport dport at : ℕ) (seg : Segment) → facts.l4 ≡ Tcp sport dport seg (Some at) → seg.flags / 2 % 2 ≡ 1
      → number16 normalised at ≡ no_more action.max_mss (number16 bytes at)
  size-by sport dport at seg e syn =
      let among : IsAmongOptions facts seg.len at = subst (λ l4. HasOptionAt facts l4) e room.option in
      let w : L4 → Option WordAt = λ l4. lowered_mss bytes l4 action.max_mss in
      let m = word_list (w (Tcp sport dport seg (Some at))) in
      let byte = λ (k : ℕ) (from : at ≤ k).
      carried-is bytes normalised facts action room n k (omega (arith, among.after, from))
      ∙ after-elsewhere (facts.l4_at + 16) (facts.l4_at + 18) (word_list (segment_sum bytes facts.l4_at (w facts.l4)))
      (λ _. byte_there (word_list (w facts.l4)) k (f k)) k
      (segment_sum-between bytes facts.l4_at (w facts.l4)) (inr (omega (arith, among.after, from)))
      ∙ ap (λ l4. byte_there (word_list (w l4)) k (f k)) e in
      let upper = byte at (omega arith) in
      let lower = byte (at + 1) (omega arith) in
      let both : number16 normalised at ≡ 2 ^ 8 * byte_there m at (f at) + byte_there m (at + 1) (f (at + 1)) =
      omega (arith, upper, lower) in
      both ∙ lowered-size bytes sport dport at seg action.max_mss syn

pub normalised_fields_lem : NormalisedHasFields
normalised_fields_lem bytes normalised facts action small fits room n = record {
  ttl = ttl-by bytes normalised small facts action fits room n facts.src refl;
  whole = whole-by bytes normalised small facts action fits room n;
  size = size-by bytes normalised small facts action fits room n;
}
