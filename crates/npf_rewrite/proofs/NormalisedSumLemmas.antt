-- The sums of a normalised packet.
use Rattle.std.proofs.Common.{◌≡◌, ℕ, ◌+◌, ◌-◌, ◌*◌, ◌<◌, ◌≤◌, Bool, true, false, Option, Some, None, List, [], ◌∷◌, ◌++◌, length, refl, sym, ap, ◌∙◌, inl, inr, arith}
use Rattle.std.specs.Prelude.{◌==◌, ◌/◌, ◌%◌, ◌^◌, IfSome, nat_lt, if◌then◌else◌, slice_index}
use Rattle.npf_fields.specs.Field.{number16}
use Rattle.npf_types.specs.declared.{action.Action.Action, address.Addr.{Addr, TheVariants.{V4, V6}}, facts.{Facts.Facts, L4.L4}}
use Rattle.npf_types.specs.declared.facts.{L4.TheVariants.{Tcp, Udp, Icmp, Icmp6, Other}, Segment.Segment}
use Rattle.npf_packet.specs.Place.{HasOptionAt, least_ip_header}
use Rattle.npf_rewrite.specs.{declared.word.WordAt.WordAt, Normalised.{Normalised, aligned, cleared_fragment, lowered_mss, raised_ttl}}
use Rattle.npf_rewrite.specs.{NormalisedVerified.{NormalisedHeaderFollows, NormalisedUpperFollows}, Room.HasRoom, Sum.sum_after, Translated.source_at}
use Rattle.npf_rewrite.specs.{Verified.{HasBytes, addresses_total, counted_total, words_total}, Word.{word, word_list}}
use Rattle.npf_rewrite.proofs.{AlignedLemmas.{aligned-fits, aligned-total}, NeutralLemmas.upper-same}
use Rattle.npf_rewrite.proofs.{NormalisedCarriedLemmas.{OnlyAt, WritesSegment, lowered-only}, NormalisedHeaderLemmas.{cleared-v4, header-is, raised-v4}}
use Rattle.npf_rewrite.proofs.{NormalisedLemmas.{addresses-stay, carried-is}, PlacedLemmas.laid, EndLemmas.shifts}
use Rattle.npf_rewrite.proofs.SumLemmas.{addresses_total-is, left_total-same}
use Rattle.npf_rewrite.proofs.TotalLemmas.{AllFit, Between, Inside, after, after-elsewhere, byte_after-elsewhere, fit-append, header-total, news-append}
use Rattle.npf_rewrite.proofs.TotalLemmas.{olds, olds-append, sum_after-follows, words_total-after, words_total-same}

-- one word that is counted, or none
chosen-inside : (at n k : ℕ) (b : Bool) (w : WordAt) → w.at ≡ at + 2 * k → k < n
    → Inside at n w.at (word_list (if b then Some w else None))
chosen-inside at n k true w e h = (omega arith, ((k, (e, h)), tt))
chosen-inside at n k false w e h = tt

chosen-fits : (b : Bool) (w : WordAt) → w.value < 2 ^ 16 → AllFit (word_list (if b then Some w else None))
chosen-fits true w h = (h, tt)
chosen-fits false w h = tt

raised-inside : (bytes : List ℕ) (ip a : ℕ) (least : Option ℕ)
    → Inside ip 6 (ip + 8) (word_list (raised_ttl bytes ip (V4 a) least))
raised-inside bytes ip a (Some least) = chosen-inside ip 6 4 _ _ (omega arith) (omega arith)
raised-inside bytes ip a None = tt

pub raised-fits : (bytes : List ℕ) (ip : ℕ) (src : Addr) (least : Option ℕ) → HasBytes bytes
    → IfSome least (λ n. n < 2 ^ 8) → AllFit (word_list (raised_ttl bytes ip src least))
raised-fits bytes ip (V4 a) (Some least) small fits = chosen-fits _ _ (omega (arith, small (ip + 9), fits))
raised-fits bytes ip (V6 a) (Some least) small fits = chosen-fits _ _ (omega (arith, small (ip + 6), fits))
raised-fits bytes ip src None small fits = tt

cleared-inside : (bytes : List ℕ) (ip a : ℕ) (no_df : Bool)
    → Inside ip 6 (ip + 6) (word_list (cleared_fragment bytes ip (V4 a) no_df))
cleared-inside bytes ip a true = chosen-inside ip 6 3 _ _ (omega arith) (omega arith)
cleared-inside bytes ip a false = tt

pub cleared-fits : (bytes : List ℕ) (ip : ℕ) (src : Addr) (no_df : Bool) → HasBytes bytes
    → AllFit (word_list (cleared_fragment bytes ip src no_df))
cleared-fits bytes ip (V4 a) true small =
    chosen-fits _ _ (omega (arith, small (ip + 6), small (ip + 6 + 1)))
cleared-fits bytes ip (V4 a) false small = tt
cleared-fits bytes ip (V6 a) no_df small = tt

-- the old words, where nothing was written before
olds-there : (f g : ℕ → ℕ) (lo hi : ℕ) (ws : List WordAt) → Between lo hi ws
    → ((k : ℕ) → lo ≤ k → k < hi → f k ≡ g k) → olds f ws ≡ olds g ws
olds-there f g lo hi [] b same = refl
olds-there f g lo hi (w ∷ ws) b same =
    omega (
      arith,
      olds-there f g lo hi ws b.1.1 same,
      same w.at b.0 (omega (arith, b.1.0)),
      same (w.at + 1) (omega (arith, b.0)) (omega (arith, b.1.0)),
    )

pub normalised_header_lem : NormalisedHeaderFollows
normalised_header_lem bytes normalised facts action a small fits e room n was =
    let ip = facts.ip_at in
    let f = slice_index bytes in
    let g = slice_index normalised in
    let ttl = word_list (raised_ttl bytes ip (V4 a) action.min_ttl) in
    let fragment = word_list (cleared_fragment bytes ip (V4 a) action.no_df) in
    let sum = number16 bytes (ip + 10) in
    let w = word (ip + 10) (sum_after 0 bytes (ttl ++ fragment) sum) in
    let least = ap least_ip_header e in
    let source = ap (source_at ip) e in
    let words = (facts.l4_at - ip) / 2 in
    let total = header-total f g ip words (omega (arith, room.upper, least))
    (λ k from to. addresses-stay bytes normalised facts action room n k (omega (arith, from, source))
    (omega (arith, to, room.upper, least))) in
    let addresses = words_total-same g f (ip + 12) 4
    (λ k from to. addresses-stay bytes normalised facts action room n k (omega (arith, from, source))
    (omega (arith, to, room.upper, least))) in
    let there = words_total-same g (after (w ∷ []) (after fragment (after ttl f))) ip 6
    (λ k from to. header-is bytes normalised small facts action fits room n (V4 a) e k
    (omega (arith, to, room.upper, least))) in
    let one = words_total-after f ip 6 (ip + 8) ttl (raised-inside bytes ip a action.min_ttl) in
    let two = words_total-after (after ttl f) ip 6 (ip + 6) fragment (cleared-inside bytes ip a action.no_df) in
    let three = words_total-after (after fragment (after ttl f)) ip 6 (ip + 10) (w ∷ [])
    (omega arith, ((5, (omega arith, omega arith)), tt)) in
    let by_ttl = raised-v4 bytes ip a action.min_ttl in
    let by_fragment = cleared-v4 bytes ip a action.no_df in
    let old_fragment = olds-there (after ttl f) f (ip + 6) (ip + 8) fragment by_fragment
    (λ k from to. after-elsewhere (ip + 8) (ip + 10) ttl f k by_ttl (inl to)) in
    let old_sum = olds-there (after fragment (after ttl f)) f (ip + 10) (ip + 12) (w ∷ [])
    (omega arith, (omega arith, tt))
    (λ k from to. after-elsewhere (ip + 6) (ip + 8) fragment (after ttl f) k by_fragment (inr (omega (arith, from)))
    ∙ after-elsewhere (ip + 8) (ip + 10) ttl f k by_ttl (inr from)) in
    let fit = fit-append ttl fragment (raised-fits bytes ip (V4 a) action.min_ttl small fits.ttl)
    (cleared-fits bytes ip (V4 a) action.no_df small) in
    let follows = sum_after-follows 0 (inl refl) bytes (ttl ++ fragment) sum small fit
    (omega (arith, small (ip + 10), small (ip + 10 + 1)))
    (words_total f ip words + 65534 * (olds f (ttl ++ fragment) + sum)) (omega (arith, was)) in
    omega (
      arith,
      follows,
      total,
      addresses,
      there,
      one,
      two,
      three,
      old_fragment,
      old_sum,
      olds-append f ttl fragment,
      news-append ttl fragment,
    )

-- the maximum segment size that is written is a number of two bytes
lowered-fits : (bytes : List ℕ) (sport dport : ℕ) (seg : Segment) (mss : ℕ) (most : Option ℕ)
    → IfSome most (λ n. n < 2 ^ 16)
    → IfSome (lowered_mss bytes (Tcp sport dport seg (Some mss)) most) (λ w. w.value < 2 ^ 16)
lowered-fits bytes sport dport seg mss (Some most) fits =
    chosen (seg.flags / 2 % 2 == 1) (nat_lt most (number16 bytes mss)) where
      chosen : (b c : Bool)
          → IfSome (if b then (if c then Some (word mss most) else None) else None) (λ (w : WordAt). w.value < 2 ^ 16)
      chosen true true = fits
      chosen true false = tt
      chosen false c = tt
lowered-fits bytes sport dport seg mss None fits = tt

some-fits : (o : Option WordAt) → IfSome o (λ w. w.value < 2 ^ 16) → AllFit (word_list o)
some-fits (Some w) fits = (fits, tt)
some-fits None fits = tt

pub lowered-fit : (bytes : List ℕ) (l4 : L4) (most : Option ℕ) → IfSome most (λ n. n < 2 ^ 16)
    → AllFit (word_list (lowered_mss bytes l4 most))
lowered-fit bytes (Tcp sport dport seg (Some mss)) most fits =
    some-fits _ (lowered-fits bytes sport dport seg mss most fits)
lowered-fit bytes (Tcp sport dport seg None) (Some most) fits = tt
lowered-fit bytes (Udp sport dport) (Some most) fits = tt
lowered-fit bytes (Icmp kind code echo) (Some most) fits = tt
lowered-fit bytes (Icmp6 kind code echo) (Some most) fits = tt
lowered-fit bytes Other (Some most) fits = tt
lowered-fit bytes l4 None fits = tt

module _ (bytes : List ℕ) (g : ℕ → ℕ) (small : HasBytes bytes) (facts : Facts)
    (addresses : addresses_total g facts.ip_at facts.src ≡ addresses_total (slice_index bytes) facts.ip_at facts.src) where
  abbrev f : ℕ → ℕ
  f = slice_index bytes

  abbrev at : ℕ
  at = facts.l4_at

  abbrev Follows : L4 → Type 0
  Follows l4 = counted_total f facts l4 % 65535 ≡ 0 → counted_total g facts l4 % 65535 ≡ 0

  -- a segment of which the word is written
  segment-follows : (sport dport : ℕ) (seg : Segment) (size : Option ℕ) (w : WordAt) → at + 20 ≤ w.at
      → w.at + 2 ≤ facts.end → w.value < 2 ^ 16 → WritesSegment bytes g at (Some w)
      → Follows (Tcp sport dport seg size)
  segment-follows sport dport seg size w from to fits each was =
      let h = after (w ∷ []) f in
      let end = facts.end in
      let m = (end - at) / 2 in
      let sum = number16 bytes (at + 16) in
      let ws = aligned bytes at w in
      let s = word (at + 16) (sum_after 0 bytes ws sum) in
      let follows = sum_after-follows 0 (inl refl) bytes ws sum small
      (aligned-fits bytes at end w (omega (arith, from)) to small fits)
      (omega (arith, small (at + 16), small (at + 16 + 1)))
      (counted_total f facts (Tcp sport dport seg size) + 65534 * (olds f ws + sum)) (omega (arith, was)) in
      let written = words_total-after h at m (at + 16) (s ∷ [])
      (omega arith, ((8, (omega arith, omega (arith, from, to))), tt)) in
      let there = words_total-same g (after (s ∷ []) h) at m (λ k lower upper. each k lower) in
      let left = left_total-same h g at end
      (λ odd. each (end - 1) (omega (arith, from, to))
      ∙ byte_after-elsewhere s (end - 1) (h (end - 1)) (inr (omega (arith, from, to)))) in
      omega (
        arith,
        follows,
        written,
        there,
        left,
        addresses,
        aligned-total bytes at end w (omega (arith, from)) to,
        byte_after-elsewhere w (at + 16) (f (at + 16)) (inl (omega (arith, from))),
        byte_after-elsewhere w (at + 16 + 1) (f (at + 16 + 1)) (inl (omega (arith, from))),
      )

  stays : (l4 : L4) → ((k : ℕ) → at ≤ k → g k ≡ f k) → Follows l4
  stays l4 same = upper-same f g facts same (ap (λ (n : ℕ). n % 65535) addresses) l4

  segment-by : (sport dport : ℕ) (seg : Segment) (mss : ℕ) (o : Option WordAt) → at + 20 ≤ mss
      → mss + 2 ≤ facts.end → OnlyAt mss o → IfSome o (λ w. w.value < 2 ^ 16) → WritesSegment bytes g at o
      → Follows (Tcp sport dport seg (Some mss))
  segment-by sport dport seg mss (Some w) from to only fits each =
      segment-follows sport dport seg (Some mss) w (omega (arith, from, only)) (omega (arith, to, only)) fits each
  segment-by sport dport seg mss None from to only fits each = stays (Tcp sport dport seg (Some mss)) each

  upper-follows : (l4 : L4) (most : Option ℕ) → HasOptionAt facts l4 → IfSome most (λ n. n < 2 ^ 16)
      → WritesSegment bytes g at (lowered_mss bytes l4 most) → Follows l4
  upper-follows (Tcp sport dport seg (Some mss)) most room fits each =
      segment-by sport dport seg mss _ room.after (omega (arith, room.before))
      (lowered-only bytes sport dport seg mss most) (lowered-fits bytes sport dport seg mss most fits) each
  upper-follows (Tcp sport dport seg None) (Some most) room fits each = stays (Tcp sport dport seg None) each
  upper-follows (Tcp sport dport seg None) None room fits each = stays (Tcp sport dport seg None) each
  upper-follows (Udp sport dport) (Some most) room fits each = stays (Udp sport dport) each
  upper-follows (Udp sport dport) None room fits each = stays (Udp sport dport) each
  upper-follows (Icmp kind code echo) (Some most) room fits each = stays (Icmp kind code echo) each
  upper-follows (Icmp kind code echo) None room fits each = stays (Icmp kind code echo) each
  upper-follows (Icmp6 kind code echo) (Some most) room fits each = stays (Icmp6 kind code echo) each
  upper-follows (Icmp6 kind code echo) None room fits each = stays (Icmp6 kind code echo) each
  upper-follows Other (Some most) room fits each = stays Other each
  upper-follows Other None room fits each = stays Other each

-- the addresses and so their words stay
pub addresses-total : (bytes normalised : List ℕ) (facts : Facts) (action : Action)
    → HasRoom (length bytes) facts → Normalised bytes facts action normalised
    → addresses_total (slice_index normalised) facts.ip_at facts.src
    ≡ addresses_total (slice_index bytes) facts.ip_at facts.src
addresses-total bytes normalised facts action room n =
    let order = laid facts.ip_at facts.src in
    addresses_total-is (slice_index normalised) facts.ip_at facts.src
    ∙ words_total-same (slice_index normalised) (slice_index bytes) (source_at facts.ip_at facts.src)
    (2 * length (shifts facts.src))
    (λ k from to. addresses-stay bytes normalised facts action room n k from
    (omega (arith, to, order.source, order.end, room.upper)))
    ∙ sym (addresses_total-is (slice_index bytes) facts.ip_at facts.src)

pub normalised_upper_lem : NormalisedUpperFollows
normalised_upper_lem bytes normalised facts action small fits room n =
    upper-follows bytes (slice_index normalised) small facts
    (addresses-total bytes normalised facts action room n) facts.l4 action.max_mss room.option fits.mss
    (carried-is bytes normalised facts action room n)
