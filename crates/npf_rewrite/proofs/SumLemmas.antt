-- The sums of a translated packet.
use Rattle.std.proofs.Common.{◌≡◌, ◌≢◌, ℕ, ◌+◌, ◌-◌, ◌*◌, ◌/◌, ◌%◌, ◌^◌, ◌<◌, ◌≤◌, ◌⊎◌, false, Option, Some, None, List, [], ◌∷◌, ◌++◌, length, refl, ap, ◌∙◌, inl, inr, arith}
use Rattle.std.{proofs.lemmas.Bool.Decides.nat_tests, specs.{Option.option_or, Prelude.{◌==◌, if◌then◌else◌, slice_index}}}
use Rattle.npf_fields.specs.Field.{number16}
use Rattle.npf_types.specs.declared.{address.Addr.{Addr, TheVariants.{V4, V6}}, change.Change.Change, facts.{Facts.Facts, L4.L4}}
use Rattle.npf_types.specs.declared.facts.L4.TheVariants.{Tcp, Udp, Icmp, Icmp6, Other}
use Rattle.npf_key.specs.Translated.{fitting}
use Rattle.npf_packet.specs.Place.{least_ip_header, least_upper_header}
use Rattle.npf_rewrite.specs.{declared.word.WordAt.WordAt, Address.end_words, Sum.sum_after}
use Rattle.npf_rewrite.specs.Translated.{Translated, destination_at, header_sum, new_ends, port_writes, source_at, upper_sum}
use Rattle.npf_rewrite.specs.Verified.{HasBytes, HasSum, HeaderSumFollows, PortFits, PortsFit, UpperSumFollows, addresses_total, carried_total, counted_total, words_total}
use Rattle.npf_rewrite.{specs.Word.{byte_there, named_word, word, word_list}, proofs.EndLemmas.{address_size, end-between, end-fits, end-inside, shifts}}
use Rattle.npf_rewrite.proofs.{PlacedLemmas.{addresses-there, carried-there, laid, made, options-same, sum-there, unless}, PortLemmas.{ports, ports-between}}
use Rattle.npf_rewrite.proofs.TotalLemmas.{AllFit, Between, Inside, after, after-elsewhere, fit-append, header-total, inside-append, news, news-append}
use Rattle.npf_rewrite.proofs.TotalLemmas.{olds, olds-append, sum_after-follows, words_total-after, words_total-same}

-- the byte that is left behind whole words
abbrev pub left_total : (ℕ → ℕ) → ℕ → ℕ → ℕ
left_total f at end = if (end - at) % 2 == 1 then 2 ^ 8 * f (end - 1) else 0

pub left_total-same : (f g : ℕ → ℕ) (at end : ℕ) → ((end - at) % 2 ≡ 1 → g (end - 1) ≡ f (end - 1))
    → left_total g at end ≡ left_total f at end
left_total-same f g at end same = grind (arith, nat_tests, same)

pub addresses_total-is : (byte : ℕ → ℕ) (ip : ℕ) (src : Addr)
    → addresses_total byte ip src ≡ words_total byte (source_at ip src) (2 * length (shifts src))
addresses_total-is byte ip (V4 a) = refl
addresses_total-is byte ip (V6 a) = refl

-- the ports that are written of what is carried, apart from its sum, of which the header's fixed part
-- has `size` bytes
pub record InCarried (l4 m size plo phi k : ℕ) (p : List WordAt) : Type 0 where
  pub in_p : Inside l4 m plo p
  pub by_p : Between plo phi p
  pub from : l4 ≤ plo
  pub apart : (l4 + 2 * k + 2 ≤ plo) ⊎ (phi ≤ l4 + 2 * k)
  pub counted : k < m
  pub ends : (phi ≤ l4 + size) × (2 * k + 2 ≤ size)
  pub even : size % 2 ≡ 0
  pub fit : AllFit p

module _ (bytes translated : List ℕ) (small : HasBytes bytes) (facts : Facts) (change : Change)
    (above : facts.ip_at + least_ip_header facts.src ≤ facts.l4_at)
    (neutral : change.neutral ≡ false) (t : Translated bytes facts change translated) where
  abbrev ip : ℕ
  ip = facts.ip_at

  abbrev at : ℕ
  at = facts.l4_at

  abbrev f : ℕ → ℕ
  f = slice_index bytes

  abbrev g : ℕ → ℕ
  g = slice_index translated

  abbrev s : List WordAt
  s = end_words (source_at ip facts.src) (fitting facts.src change.src)

  abbrev d : List WordAt
  d = end_words (destination_at ip facts.src) (fitting facts.src change.dst)

  abbrev p : List WordAt
  p = port_writes facts (new_ends facts change)

  abbrev u : List WordAt
  u = word_list (upper_sum bytes facts (new_ends facts change))

  fit : AllFit (s ++ d)
  fit = fit-append s d (end-fits facts.src _ change.src) (end-fits facts.src _ change.dst)

  fits : (k : ℕ) → number16 bytes k < 2 ^ 16
  fits k = omega (arith, small k, small (k + 1))

  addresses : addresses_total g ip facts.src + olds f (s ++ d)
      ≡ addresses_total f ip facts.src + news (s ++ d)
  addresses =
      let order = laid ip facts.src in
      let from = source_at ip facts.src in
      let n = 2 * length (shifts facts.src) in
      let inside = inside-append from n from (from + address_size facts.src) from s d (omega arith)
      (end-inside facts.src from n from 0 change.src (omega arith) (omega arith))
      (end-between facts.src from change.src)
      (rw order.source (end-inside facts.src from n (destination_at ip facts.src) (length (shifts facts.src))
      change.dst (omega arith) (omega arith))) in
      let total = words_total-after f from n from (s ++ d) inside in
      let same = words_total-same g (after (s ++ d) f) from n
      (λ k lower upper. addresses-there bytes translated facts change above t k lower (omega arith)) in
      omega (
        arith,
        total,
        same,
        addresses_total-is f ip facts.src,
        addresses_total-is g ip facts.src,
      )

  -- the header's sum
  pub header-follows : (n a : ℕ) → facts.src ≡ V4 a → 10 ≤ n → ip + 2 * n ≤ at
      → words_total f ip n % 65535 ≡ 0 → words_total g ip n % 65535 ≡ 0
  header-follows n a e long ends was =
      let sum = number16 bytes (ip + 10) in
      let w = word (ip + 10) (sum_after 0 bytes (s ++ d) sum) in
      let source = ap (source_at ip) e in
      let least = ap least_ip_header e in
      let written = words_total-after f ip 6 (ip + 10) (w ∷ [])
      (omega arith, ((5, (omega arith, omega arith)), tt)) in
      let front = words_total-same g (after (w ∷ []) f) ip 6
      (λ k from to. sum-there bytes translated facts change above t k (omega arith)
      ∙ ap (λ b. byte_there (unless b (word_list (header_sum bytes ip facts.src (s ++ d)))) k (f k)) neutral
      ∙ ap (λ x. byte_there (word_list (header_sum bytes ip x (s ++ d))) k (f k)) e) in
      let total = header-total f g ip n long
      (λ k from to. options-same bytes translated facts change above t k (omega arith) (omega arith)) in
      let follows = sum_after-follows 0 (inl refl) bytes (s ++ d) sum small fit (fits (ip + 10))
      (words_total f ip n + 65534 * (olds f (s ++ d) + sum)) (omega (arith, was)) in
      omega (
        arith,
        follows,
        total,
        written,
        front,
        addresses,
        ap (addresses_total f ip) e,
        ap (addresses_total g ip) e,
      )

  -- the sum of what is carried
  module _ (m size plo phi k v end : ℕ) (is_u : u ≡ word (at + 2 * k) v ∷ [])
      (tail : InCarried at m size plo phi k p) (halves : m ≡ (end - at) / 2) (whole : at + size ≤ end) where
    abbrev sum : ℕ
    sum = number16 bytes (at + 2 * k)

    there : (j : ℕ) → at ≤ j → g j ≡ after (word (at + 2 * k) v ∷ []) (after p f) j
    there j from =
        carried-there bytes translated facts change above t j from
        ∙ ap (λ b. byte_there (unless b u) j (byte_there p j (f j))) neutral
        ∙ ap (λ ws. byte_there ws j (byte_there p j (f j))) is_u

    carried : carried_total g at end + (olds f p + sum) ≡ carried_total f at end + (news p + v)
    carried =
        let w = word (at + 2 * k) v in
        let one = words_total-after f at m plo p tail.in_p in
        let two = words_total-after (after p f) at m (at + 2 * k) (w ∷ [])
        (omega arith, ((k, (refl, tail.counted)), tt)) in
        let apart = tail.apart in
        let upper = after-elsewhere plo phi p f (at + 2 * k) tail.by_p (grind arith) in
        let lower = after-elsewhere plo phi p f (at + 2 * k + 1) tail.by_p (grind arith) in
        let words = words_total-same g (after (w ∷ []) (after p f)) at m (λ j from to. there j from) in
        let left = left_total-same f g at end
        (λ odd. there (end - 1) (omega arith)
        ∙ after-elsewhere (at + 2 * k) (at + 2 * k + 2) (w ∷ []) (after p f) (end - 1)
        (omega arith, (omega arith, tt)) (inr (omega (arith, tail.ends.1, tail.even)))
        ∙ after-elsewhere plo phi p f (end - 1) tail.by_p (inr (omega (arith, tail.ends.0, tail.even))))
        in
        omega (
          arith,
          one,
          two,
          upper,
          lower,
          words,
          left,
          ap (words_total f at) halves,
          ap (words_total g at) halves,
        )

    module _ (empty : ℕ) (stands : (empty ≡ 0) ⊎ (empty ≡ 0xffff)) where
      -- with a pseudo-header
      pub both-follow : (x : ℕ) → v ≡ sum_after empty bytes ((s ++ d) ++ p) sum
          → (addresses_total f ip facts.src + x + carried_total f at end) % 65535 ≡ 0
          → (addresses_total g ip facts.src + x + carried_total g at end) % 65535 ≡ 0
      both-follow x is was =
          let total = addresses_total f ip facts.src + x + carried_total f at end in
          let follows = sum_after-follows empty stands bytes ((s ++ d) ++ p) sum small
          (fit-append (s ++ d) p fit tail.fit) (fits (at + 2 * k))
          (total + 65534 * (olds f ((s ++ d) ++ p) + sum)) (omega (arith, was)) in
          omega (
            arith,
            follows,
            is,
            addresses,
            carried,
            olds-append f (s ++ d) p,
            news-append (s ++ d) p,
          )

      -- alone
      pub carried-follows : v ≡ sum_after empty bytes p sum
          → carried_total f at end % 65535 ≡ 0 → carried_total g at end % 65535 ≡ 0
      carried-follows is was =
          let follows = sum_after-follows empty stands bytes p sum small tail.fit (fits (at + 2 * k))
          (carried_total f at end + 65534 * (olds f p + sum)) (omega (arith, was)) in
          omega (arith, follows, is, carried)

ports-inside : (l4 m : ℕ) (sp dp : Option ℕ) → 2 ≤ m → Inside l4 m l4 (ports l4 sp dp)
ports-inside l4 m (Some s) (Some d) h = (
  omega arith,
  (
    (0, (omega arith, omega arith)),
    (omega arith, ((1, (omega arith, omega arith)), tt)),
  ),
)
ports-inside l4 m (Some s) None h = (omega arith, ((0, (omega arith, omega arith)), tt))
ports-inside l4 m None (Some d) h = (omega arith, ((1, (omega arith, omega arith)), tt))
ports-inside l4 m None None h = tt

ports-fit : (l4 : ℕ) (sp dp : Option ℕ) → PortFits sp → PortFits dp → AllFit (ports l4 sp dp)
ports-fit l4 (Some s) (Some d) p q = (p, (q, tt))
ports-fit l4 (Some s) None p q = (p, tt)
ports-fit l4 None (Some d) p q = (q, tt)
ports-fit l4 None None p q = tt

-- the ports or the identifier that are written
with_ports : (l4 m size k : ℕ) (sp dp : Option ℕ) → PortFits sp → PortFits dp → 2 ≤ m → k < m → 2 ≤ k
    → 2 * k + 2 ≤ size → size % 2 ≡ 0 → InCarried l4 m size l4 (l4 + 4) k (ports l4 sp dp)
with_ports l4 m size k sp dp fs fd two counted far room even = record {
  in_p = ports-inside l4 m sp dp two;
  by_p = ports-between l4 sp dp;
  from = omega arith;
  apart = inr (omega arith);
  counted = counted;
  ends = (omega arith, room);
  even = even;
  fit = ports-fit l4 sp dp fs fd;
}

with_identifier : (l4 m : ℕ) (o : Option ℕ) → PortFits o → 4 ≤ m
    → InCarried l4 m 8 (l4 + 4) (l4 + 6) 1 (word_list (named_word (l4 + 4) o) ++ [])
with_identifier l4 m (Some v) fits long = record {
  in_p = (omega arith, ((2, (omega arith, omega arith)), tt));
  by_p = (omega arith, (omega arith, tt));
  from = omega arith;
  apart = inl (omega arith);
  counted = omega arith;
  ends = (omega arith, omega arith);
  even = refl;
  fit = (fits, tt);
}
with_identifier l4 m None fits long = record {
  in_p = tt;
  by_p = tt;
  from = omega arith;
  apart = inl (omega arith);
  counted = omega arith;
  ends = (omega arith, omega arith);
  even = refl;
  fit = tt;
}

pub either-fits : (a b : Option ℕ) → PortFits a → PortFits b → PortFits (option_or a b)
either-fits (Some x) b p q = p
either-fits None b p q = q

present : (sum v : ℕ) → sum ≢ 0 → (if sum == 0 then 0 else v) ≡ v
present sum v h = grind (arith, nat_tests, h)

module _ (bytes translated : List ℕ) (small : HasBytes bytes) (dst : Addr) (proto ip at end : ℕ)
    (change : Change) (neutral : change.neutral ≡ false) where
  abbrev facts : Addr → L4 → Facts
  facts src l4 = made src dst proto ip at end l4

  abbrev Follows : Addr → L4 → Type 0
  Follows src l4 =
      PortsFit (facts src l4) change → ip + least_ip_header src ≤ at
      → at + least_upper_header l4 ≤ end
      → HasSum bytes at src l4 → Translated bytes (facts src l4) change translated
      → counted_total (slice_index bytes) (facts src l4) l4 % 65535 ≡ 0
      → counted_total (slice_index translated) (facts src l4) l4 % 65535 ≡ 0

  abbrev m : ℕ
  m = (end - at) / 2

  abbrev x : ℕ
  x = proto + (end - at)

  follows : (src : Addr) (l4 : L4) → Follows src l4
  follows src (Tcp sport dport seg mss_at) fits above whole has t was =
      both-follow bytes translated small (facts src (Tcp sport dport seg mss_at)) change above neutral t m 20 at (at + 4) 8 _ end refl
      (with_ports at m 20 8 _ _ fits.src fits.dst (omega arith) (omega arith) (omega arith) (omega arith)
      refl) refl whole 0 (inl refl) x refl was
  follows (V4 a) (Udp sport dport) fits above whole has t was =
      both-follow bytes translated small (facts (V4 a) (Udp sport dport)) change above neutral t m 8 at (at + 4) 3 _ end refl
      (with_ports at m 8 3 _ _ fits.src fits.dst (omega arith) (omega arith) (omega arith) (omega arith)
      refl) refl whole 0xffff (inr refl) x (present (number16 bytes (at + 6)) _ has) was
  follows (V6 a) (Udp sport dport) fits above whole has t was =
      both-follow bytes translated small (facts (V6 a) (Udp sport dport)) change above neutral t m 8 at (at + 4) 3 _ end refl
      (with_ports at m 8 3 _ _ fits.src fits.dst (omega arith) (omega arith) (omega arith) (omega arith)
      refl) refl whole 0xffff (inr refl) x refl was
  follows src (Icmp kind code (Some id)) fits above whole has t was =
      carried-follows bytes translated small (facts src (Icmp kind code (Some id))) change above neutral t m 8 (at + 4) (at + 6) 1 _ end refl
      (with_identifier at m _ (either-fits _ _ fits.src fits.dst) (omega arith)) refl whole 0 (inl refl)
      refl was
  follows src (Icmp kind code None) fits above whole has t was =
      carried-follows bytes translated small (facts src (Icmp kind code None)) change above neutral t m 8 (at + 4) (at + 6) 1 _ end refl
      (with_identifier at m None tt (omega arith)) refl whole 0 (inl refl) refl was
  follows src (Icmp6 kind code (Some id)) fits above whole has t was =
      both-follow bytes translated small (facts src (Icmp6 kind code (Some id))) change above neutral t m 8 (at + 4) (at + 6) 1 _ end refl
      (with_identifier at m _ (either-fits _ _ fits.src fits.dst) (omega arith)) refl whole 0 (inl refl) x
      refl was
  follows src (Icmp6 kind code None) fits above whole has t was =
      both-follow bytes translated small (facts src (Icmp6 kind code None)) change above neutral t m 8 (at + 4) (at + 6) 1 _ end refl
      (with_identifier at m None tt (omega arith)) refl whole 0 (inl refl) x refl was
  follows src Other fits above whole has t was = was

pub header_sum_follows_lem : HeaderSumFollows
header_sum_follows_lem bytes translated facts change a small e room neutral t was =
    let least = ap least_ip_header e in
    header-follows bytes translated small facts change room.upper neutral t
    ((facts.l4_at - facts.ip_at) / 2) a e (omega (arith, room.upper)) (omega (arith, room.upper)) was

pub upper_sum_follows_lem : UpperSumFollows
upper_sum_follows_lem bytes translated facts change small fits room neutral has t was =
    follows bytes translated small facts.dst facts.proto facts.ip_at facts.l4_at facts.end change neutral
    facts.src facts.l4 fits room.upper room.upper_header has t was
