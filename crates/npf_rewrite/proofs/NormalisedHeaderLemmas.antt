-- The header of a normalised packet.
use Rattle.std.proofs.Common.{◌≡◌, ℕ, ◌+◌, ◌-◌, ◌*◌, ◌<◌, ◌≤◌, Bool, true, false, Option, Some, None, List, ◌++◌, length, refl, ap, ◌∙◌, inl, inr, arith}
use Rattle.std.{proofs.lemmas.Bool.Decides.nat_tests, specs.Prelude.{◌==◌, ◌/◌, ◌%◌, ◌^◌, IfSome, nat_lt, not, if◌then◌else◌, slice_index}}
use Rattle.npf_fields.specs.Field.{number16}
use Rattle.npf_types.specs.declared.{action.Action.Action, address.Addr.{Addr, TheVariants.{V4, V6}}, facts.Facts.Facts}
use Rattle.npf_packet.specs.{Ipv4.is_fragment, Place.least_ip_header}
use Rattle.npf_rewrite.specs.{declared.word.WordAt.WordAt, Normalised.{Normalised, cleared_fragment, joined, raised_ttl}, NormalisedFacts.ActionFits}
use Rattle.npf_rewrite.specs.{Room.HasRoom, Translated.header_sum, Verified.HasBytes, Word.{byte_after, byte_there, word, word_list}}
use Rattle.npf_rewrite.proofs.{NormalisedLemmas.{chosen-between, in-header}, TotalLemmas.{Between, after-elsewhere, byte_after-lower, byte_after-upper}}
use Rattle.npf_rewrite.proofs.WordLemmas.{byte_there-append}

-- a byte that a word leaves as it was
chosen-same : (b : Bool) (w : WordAt) (k x : ℕ) → byte_after w k x ≡ x
    → byte_there (word_list (if b then Some w else None)) k x ≡ x
chosen-same true w k x same = same
chosen-same false w k x same = refl

-- IPv4's protocol and IPv6's next header, beside what is raised
protocol-same : (bytes : List ℕ) (ip a : ℕ) (least : Option ℕ) → HasBytes bytes
    → byte_there (word_list (raised_ttl bytes ip (V4 a) least)) (ip + 9) (slice_index bytes (ip + 9))
    ≡ slice_index bytes (ip + 9)
protocol-same bytes ip a (Some least) small =
    let w = word (ip + 8) (joined least (slice_index bytes (ip + 9))) in
    let lower = byte_after-lower w (ip + 9) (slice_index bytes (ip + 9)) (omega arith) in
    chosen-same (nat_lt (slice_index bytes (ip + 8)) least) w (ip + 9) (slice_index bytes (ip + 9))
    (omega (arith, lower, small (ip + 9)))
protocol-same bytes ip a None small = refl

next-same : (bytes : List ℕ) (ip a : ℕ) (least : Option ℕ) → IfSome least (λ n. n < 2 ^ 8)
    → byte_there (word_list (raised_ttl bytes ip (V6 a) least)) (ip + 6) (slice_index bytes (ip + 6))
    ≡ slice_index bytes (ip + 6)
next-same bytes ip a (Some least) fits =
    let w = word (ip + 6) (joined (slice_index bytes (ip + 6)) least) in
    let upper = byte_after-upper w (ip + 6) (slice_index bytes (ip + 6)) refl in
    chosen-same (nat_lt (slice_index bytes (ip + 7)) least) w (ip + 6) (slice_index bytes (ip + 6))
    (omega (arith, upper, fits))
next-same bytes ip a None fits = refl

-- the offset and the bit "more fragments" stay where "don't fragment" is cleared
cleared-if : (at x y : ℕ) (b : Bool) → ((2 ^ 8 * x + y) / 0x4000 % 2 == 1) ≡ b
    → (let ws = word_list (if b then Some (word at (2 ^ 8 * x + y - 0x4000)) else None) in
    (2 ^ 8 * byte_there ws at x + byte_there ws (at + 1) y) % 0x4000) ≡ (2 ^ 8 * x + y) % 0x4000
cleared-if at x y true is =
    let w = word at (2 ^ 8 * x + y - 0x4000) in
    let set : (2 ^ 8 * x + y) / 0x4000 % 2 ≡ 1 = grind (arith, nat_tests) in
    let upper = byte_after-upper w at x refl in
    let lower = byte_after-lower w (at + 1) y refl in
    omega (arith, set, upper, lower)
cleared-if at x y false is = refl

cleared-rest : (bytes : List ℕ) (ip a : ℕ) (no_df : Bool)
    → (let ws = word_list (cleared_fragment bytes ip (V4 a) no_df) in
    (2 ^ 8 * byte_there ws (ip + 6) (slice_index bytes (ip + 6))
    + byte_there ws (ip + 6 + 1) (slice_index bytes (ip + 6 + 1))) % 0x4000) ≡ number16 bytes (ip + 6) % 0x4000
cleared-rest bytes ip a true =
    cleared-if (ip + 6) (slice_index bytes (ip + 6)) (slice_index bytes (ip + 6 + 1)) _ refl
cleared-rest bytes ip a false = refl

pub raised-v4 : (bytes : List ℕ) (ip a : ℕ) (least : Option ℕ)
    → Between (ip + 8) (ip + 10) (word_list (raised_ttl bytes ip (V4 a) least))
raised-v4 bytes ip a (Some least) = chosen-between _ _ _ _ (omega arith) (omega arith)
raised-v4 bytes ip a None = tt

pub cleared-v4 : (bytes : List ℕ) (ip a : ℕ) (no_df : Bool)
    → Between (ip + 6) (ip + 8) (word_list (cleared_fragment bytes ip (V4 a) no_df))
cleared-v4 bytes ip a true = chosen-between _ _ _ _ (omega arith) (omega arith)
cleared-v4 bytes ip a false = tt

module _ (bytes normalised : List ℕ) (small : HasBytes bytes) (facts : Facts) (action : Action)
    (fits : ActionFits action) (room : HasRoom (length bytes) facts)
    (n : Normalised bytes facts action normalised) where
  abbrev ip : ℕ
  ip = facts.ip_at

  abbrev f : ℕ → ℕ
  f = slice_index bytes

  abbrev g : ℕ → ℕ
  g = slice_index normalised

  abbrev ttl : Addr → List WordAt
  ttl src = word_list (raised_ttl bytes ip src action.min_ttl)

  abbrev fragment : Addr → List WordAt
  fragment src = word_list (cleared_fragment bytes ip src action.no_df)

  abbrev sum : Addr → List WordAt
  sum src = word_list (header_sum bytes ip src (ttl src ++ fragment src))

  -- the header, by its family
  pub header-is : (src : Addr) → facts.src ≡ src → (k : ℕ) → k < facts.l4_at
      → g k ≡ byte_there (sum src) k (byte_there (fragment src) k (byte_there (ttl src) k (f k)))
  header-is src e k below =
      in-header bytes normalised facts action room n k below
      ∙ ap (λ s. byte_there (sum s) k (byte_there (ttl s ++ fragment s) k (f k))) e
      ∙ ap (byte_there (sum src) k) (byte_there-append (ttl src) (fragment src) k (f k))

  above : (src : Addr) → facts.src ≡ src → ip + least_ip_header src ≤ facts.l4_at
  above src e = omega (arith, room.upper, ap least_ip_header e)

  -- the protocol of IPv4
  pub protocol-stays : (a : ℕ) → facts.src ≡ V4 a → g (ip + 9) ≡ f (ip + 9)
  protocol-stays a e =
      header-is (V4 a) e (ip + 9) (omega (arith, above (V4 a) e))
      ∙ after-elsewhere (ip + 10) (ip + 12) (sum (V4 a))
      (λ _. byte_there (fragment (V4 a)) (ip + 9) (byte_there (ttl (V4 a)) (ip + 9) (f (ip + 9))))
      (ip + 9) (omega arith, (omega arith, tt)) (inl (omega arith))
      ∙ after-elsewhere (ip + 6) (ip + 8) (fragment (V4 a)) (λ _. byte_there (ttl (V4 a)) (ip + 9) (f (ip + 9)))
      (ip + 9) (cleared-v4 bytes ip a action.no_df) (inr (omega arith))
      ∙ protocol-same bytes ip a action.min_ttl small

  pub fragment-byte : (a : ℕ) → facts.src ≡ V4 a → (k : ℕ) → k < ip + 8 → g k ≡ byte_there (fragment (V4 a)) k (f k)
  fragment-byte a e k below =
      header-is (V4 a) e k (omega (arith, above (V4 a) e))
      ∙ after-elsewhere (ip + 10) (ip + 12) (sum (V4 a))
      (λ _. byte_there (fragment (V4 a)) k (byte_there (ttl (V4 a)) k (f k)))
      k (omega arith, (omega arith, tt)) (inl (omega arith))
      ∙ ap (byte_there (fragment (V4 a)) k)
      (after-elsewhere (ip + 8) (ip + 10) (ttl (V4 a)) f k (raised-v4 bytes ip a action.min_ttl) (inl below))

  -- whether IPv4's packet is a fragment
  pub fragment-stays : (a : ℕ) → facts.src ≡ V4 a → is_fragment normalised ip ≡ is_fragment bytes ip
  fragment-stays a e =
      let upper = fragment-byte a e (ip + 6) (omega arith) in
      let lower = fragment-byte a e (ip + 6 + 1) (omega arith) in
      let both : number16 normalised (ip + 6) ≡ 2 ^ 8 * byte_there (fragment (V4 a)) (ip + 6) (f (ip + 6))
      + byte_there (fragment (V4 a)) (ip + 6 + 1) (f (ip + 6 + 1)) = omega (arith, upper, lower) in
      ap (λ (x : ℕ). not (x == 0)) (ap (λ (x : ℕ). x % 0x4000) both ∙ cleared-rest bytes ip a action.no_df)

  -- IPv6's next header
  pub next-stays : (a : ℕ) → facts.src ≡ V6 a → g (ip + 6) ≡ f (ip + 6)
  next-stays a e =
      header-is (V6 a) e (ip + 6) (omega (arith, above (V6 a) e))
      ∙ next-same bytes ip a action.min_ttl fits.ttl
