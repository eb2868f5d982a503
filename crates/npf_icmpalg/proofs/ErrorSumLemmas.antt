-- The sum of an error of ICMP or ICMPv6, whose words are those behind the outer header, and in ICMPv6 those of the outer addresses
-- besides.
use Rattle.std.proofs.Common.{◌≡◌, ℕ, ◌+◌, ◌-◌, ◌*◌, ◌/◌, ◌%◌, ◌^◌, ◌<◌, ◌≤◌, Bool, true, false, Option, Some, None, List, [], ◌∷◌, ◌++◌, length, refl, sym, ap, ◌∙◌, subst, inl, inr, arith}
use Rattle.std.{proofs.lemmas.Bool.Decides.nat_tests, specs.{Option.option_or, Prelude.{◌==◌, ◌||◌, if◌then◌else◌, nat_le, slice_index}}}
use Rattle.npf_types.specs.declared.{address.Addr.{Addr, TheVariants.{V4, V6}}, change.{Change.Change, End.End}, facts.{Facts.Facts, L4.L4}}
use Rattle.npf_fields.specs.Field.{number16}
use Rattle.npf_key.specs.Translated.{fitting, named_port}
use Rattle.npf_packet.specs.Place.{least_ip_header}
use Rattle.npf_rewrite.specs.{declared.word.WordAt.WordAt, Address.end_words, Room.HasRoom, Sum.{sum_after, sum_after_word}}
use Rattle.npf_rewrite.specs.Translated.{destination_at, header_sum, source_at}
use Rattle.npf_rewrite.specs.Verified.{HasBytes, PortFits, PortsFit, addresses_total, carried_total, pseudo_total, words_total}
use Rattle.npf_rewrite.{specs.Word.{byte_there, named_word, word, word_list}, proofs.EndLemmas.{address_size, end-between, end-fits, end-inside, shifts}}
use Rattle.npf_rewrite.proofs.{PlacedLemmas.{between-append, front_at, header_sum-between, laid}, SumLemmas.{addresses_total-is, either-fits}}
use Rattle.npf_rewrite.proofs.TotalLemmas.{AllFit, Between, Inside, after, after-elsewhere, fit-append, inside-append, news, news-append, olds, olds-append}
use Rattle.npf_rewrite.proofs.TotalLemmas.{sum_after-fits, sum_after-follows, words_total-after, words_total-same}
use Rattle.npf_icmpalg.specs.{declared.{error.Inner.Inner, header.HeaderEnds.HeaderEnds}, Error.{IsError, error_in, is_error}}
use Rattle.npf_icmpalg.specs.ErrorTranslated.{ErrorTranslated, counted_outer, error_sum, error_sums, error_writes, outer_ends, quoted_ends}
use Rattle.npf_icmpalg.specs.ErrorTranslated.{quoted_header_sum, quoted_ports, quoted_sum, quoted_sum_after}
use Rattle.npf_icmpalg.specs.{ErrorVerified.{ErrorSumFollows, Icmpv6ErrorSumFollows}, Header.header_addresses, Quoted.{is_same_address, whole_sum_at}}
use Rattle.npf_icmpalg.proofs.ScatteredLemmas.{Apart, Scattered, apart-append, apart-between, apart-inside, behind-there, front-there, inside-between, scattered-append}
use Rattle.npf_icmpalg.proofs.ScatteredLemmas.{scattered-between, scattered-inside, scattered-last, total-scattered, wider}

-- A sum at the second word of what is counted, which follows words in front of that and scattered words in it.
module _ (bytes translated : List ℕ) (at end : ℕ) (small : HasBytes bytes) (front counted : List WordAt)
    (front_fits : AllFit front) (fit : AllFit counted) (room : at + 8 ≤ end)
    (apart : Apart (word (at + 2) (sum_after 0 bytes (front ++ counted) (number16 bytes (at + 2)))) counted)
    (scattered : Scattered at ((end - at) / 2) counted)
    (each : (k : ℕ) → at ≤ k → slice_index translated k
    ≡ byte_there (counted ++ word (at + 2) (sum_after 0 bytes (front ++ counted) (number16 bytes (at + 2))) ∷ []) k (slice_index bytes k)) where
  abbrev f : ℕ → ℕ
  f = slice_index bytes

  abbrev g : ℕ → ℕ
  g = slice_index translated

  abbrev n : ℕ
  n = (end - at) / 2

  abbrev sum : ℕ
  sum = number16 bytes (at + 2)

  abbrev e : WordAt
  e = word (at + 2) (sum_after 0 bytes (front ++ counted) sum)

  all : Scattered at n (counted ++ e ∷ [])
  all = scattered-last at n counted e scattered apart ((1, (omega arith, omega arith)), (tt, tt))

  words : words_total g at n + (olds f counted + sum) ≡ words_total f at n + (news counted + e.value)
  words =
      let same = words_total-same g (after (counted ++ e ∷ []) f) at n (λ k from to. each k from) in
      let total = total-scattered f at n (counted ++ e ∷ []) all in
      omega (arith, same, total, olds-append f counted (e ∷ []), news-append counted (e ∷ []))

  tail : (end - at) % 2 ≡ 1 → g (end - 1) ≡ f (end - 1)
  tail odd = each (end - 1) (omega arith)
      ∙ after-elsewhere at (at + 2 * n) (counted ++ e ∷ []) f (end - 1)
      (scattered-between at n (counted ++ e ∷ []) all) (inr (omega (arith, odd)))

  left : (b : Bool) → ((end - at) % 2 == 1) ≡ b
      → (if b then 2 ^ 8 * g (end - 1) else 0) ≡ (if b then 2 ^ 8 * f (end - 1) else 0)
  left true is = ap (λ x. 2 ^ 8 * x) (tail (grind (arith, nat_tests)))
  left false is = refl

  -- with what else is counted, whose words in front follow too
  pub counted-follows : (x y : ℕ) → y + olds f front ≡ x + news front
      → (x + carried_total f at end) % 65535 ≡ 0 → (y + carried_total g at end) % 65535 ≡ 0
  counted-follows x y moved was =
      let s : sum < 2 ^ 16 = omega (arith, small (at + 2), small (at + 2 + 1)) in
      let follows = sum_after-follows 0 (inl refl) bytes (front ++ counted) sum small (fit-append front counted front_fits fit) s
      (x + carried_total f at end + 65534 * (olds f (front ++ counted) + sum)) (omega (arith, was)) in
      omega (
        arith,
        follows,
        words,
        left ((end - at) % 2 == 1) refl,
        moved,
        olds-append f front counted,
        news-append front counted,
      )

-- how far a quoted sum stands behind the ports, or in front of the identifier
abbrev pub OffsetFits : Bool → ℕ → Type 0
OffsetFits true off = 6 ≤ off
OffsetFits false off = off ≡ 2

-- how many words stand between an error's header and the quoted source
abbrev pub words_before : Addr → ℕ
words_before (V4 _) = 10
words_before (V6 _) = 8

source-even : (src : Addr) (at : ℕ) → source_at (at + 8) src ≡ at + 2 * words_before src
source-even (V4 a) at = omega arith
source-even (V6 a) at = omega arith

-- the sum of a quoted header stands among what is counted, and is one
header-counted : (src : Addr) (bytes : List ℕ) (at n : ℕ) (ws : List WordAt) → 10 ≤ n
    → Scattered at n (word_list (header_sum bytes (at + 8) src ws))
header-counted (V4 a) bytes at n ws long = ((9, (omega arith, omega arith)), (tt, tt))
header-counted (V6 a) bytes at n ws long = tt

header-fits : (src : Addr) (bytes : List ℕ) (ip : ℕ) (ws : List WordAt) → HasBytes bytes
    → AllFit (word_list (header_sum bytes ip src ws))
header-fits (V4 a) bytes ip ws small =
    (sum_after-fits bytes ws (number16 bytes (ip + 10)) (omega (arith, small (ip + 10), small (ip + 10 + 1))), tt)
header-fits (V6 a) bytes ip ws small = tt

-- what is written in a quoted packet whose header has `m` words of four bytes
module _ (src : Addr) (at end m : ℕ) (long : 5 ≤ m) (least : least_ip_header src ≤ 4 * m) (upper : at + 8 + 4 * m + 8 ≤ end) where
  abbrev pub ip : ℕ
  ip = at + 8

  abbrev pub l4 : ℕ
  l4 = at + 8 + 4 * m

  abbrev pub count : ℕ
  count = (end - at) / 2

  abbrev pub ports_of : Bool → Option ℕ → Option ℕ → Option ℕ → List WordAt
  ports_of b sp dp o =
      word_list (if b then named_word (l4 + 0) sp else named_word (l4 + 4) o)
      ++ word_list (if b then named_word (l4 + 2) dp else None)

  ports-inside : (b : Bool) (sp dp o : Option ℕ) → Inside at count l4 (ports_of b sp dp o)
  ports-inside true (Some s) (Some d) o = (
    omega arith,
    (
      (4 + 2 * m, (omega arith, omega (arith, long, upper))),
      (omega arith, ((5 + 2 * m, (omega arith, omega (arith, long, upper))), tt)),
    ),
  )
  ports-inside true (Some s) None o = (omega arith, ((4 + 2 * m, (omega arith, omega (arith, long, upper))), tt))
  ports-inside true None (Some d) o = (omega arith, ((5 + 2 * m, (omega arith, omega (arith, long, upper))), tt))
  ports-inside true None None o = tt
  ports-inside false sp dp (Some i) = (omega arith, ((6 + 2 * m, (omega arith, omega (arith, long, upper))), tt))
  ports-inside false sp dp None = tt

  ports-apart : (b : Bool) (sp dp o : Option ℕ) (off v : ℕ) → OffsetFits b off
      → Apart (word (l4 + off) v) (ports_of b sp dp o)
  ports-apart true (Some s) (Some d) o off v h = (inl (omega (arith, h)), (inl (omega (arith, h)), tt))
  ports-apart true (Some s) None o off v h = (inl (omega (arith, h)), tt)
  ports-apart true None (Some d) o off v h = (inl (omega (arith, h)), tt)
  ports-apart true None None o off v h = tt
  ports-apart false sp dp (Some i) off v h = (inr (omega (arith, h)), tt)
  ports-apart false sp dp None off v h = tt

  ports-fit : (b : Bool) (sp dp o : Option ℕ) → PortFits sp → PortFits dp → PortFits o
      → AllFit (ports_of b sp dp o)
  ports-fit true (Some s) (Some d) o p q r = (p, (q, tt))
  ports-fit true (Some s) None o p q r = (p, tt)
  ports-fit true None (Some d) o p q r = (q, tt)
  ports-fit true None None o p q r = tt
  ports-fit false sp dp (Some i) p q r = (r, tt)
  ports-fit false sp dp None p q r = tt

  module _ (bytes : List ℕ) (from to : Option End) (b : Bool) (sp dp o : Option ℕ) where
    abbrev sources : List WordAt
    sources = end_words (source_at ip src) (fitting src from)

    abbrev destinations : List WordAt
    destinations = end_words (destination_at ip src) (fitting src to)

    abbrev pub addresses : List WordAt
    addresses = sources ++ destinations

    abbrev pub named : List WordAt
    named = addresses ++ ports_of b sp dp o

    abbrev pub header_word : List WordAt
    header_word = word_list (header_sum bytes ip src addresses)

    sources-between : Between (source_at ip src) (destination_at ip src) sources
    sources-between =
        subst (λ k. Between (source_at ip src) k sources) (laid ip src).source (end-between src (source_at ip src) from)

    addresses-between : Between (source_at ip src) l4 addresses
    addresses-between =
        let order = laid ip src in
        between-append (source_at ip src) l4 sources destinations
        (wider (source_at ip src) (destination_at ip src) (source_at ip src) l4 sources (omega arith)
        (omega (arith, order.end, least)) sources-between)
        (wider (destination_at ip src) (destination_at ip src + address_size src) (source_at ip src) l4 destinations
        (omega (arith, order.source)) (omega (arith, order.end, least)) (end-between src (destination_at ip src) to))

    addresses-inside : Inside at count (source_at ip src) addresses
    addresses-inside =
        let order = laid ip src in
        let even = source-even src at in
        inside-append at count (source_at ip src) (destination_at ip src) (source_at ip src) sources destinations (omega (arith, order.source))
        (end-inside src at count (source_at ip src) (words_before src) from even
        (omega (arith, even, order.source, order.end, least, upper)))
        sources-between
        (end-inside src at count (destination_at ip src) (words_before src + length (shifts src)) to
        (omega (arith, even, order.source)) (omega (arith, even, order.source, order.end, least, upper)))

    named-inside : Inside at count (source_at ip src) named
    named-inside =
        let order = laid ip src in
        inside-append at count (source_at ip src) l4 (source_at ip src) addresses (ports_of b sp dp o)
        (omega (arith, order.source, order.end, least)) addresses-inside addresses-between (ports-inside b sp dp o)

    -- with the sum of the quoted header
    abbrev pub with_header : List WordAt
    with_header = named ++ header_word

    header-between : Between (front_at ip src) (source_at ip src) header_word
    header-between = header_sum-between bytes ip src addresses

    pub header-scattered : Scattered at count with_header
    header-scattered =
        scattered-append at count named header_word (source_at ip src) (at + 2 * count) (front_at ip src) (source_at ip src)
        (inside-between at count (source_at ip src) named named-inside) header-between (inr (omega arith))
        (scattered-inside at count (source_at ip src) named named-inside)
        (header-counted src bytes at count addresses (omega (arith, long, upper)))

    -- and with that of what is carried
    pub whole-scattered : (off half v : ℕ) → off ≡ 2 * half → OffsetFits b off → l4 + off + 2 ≤ end
        → Scattered at count (with_header ++ word (l4 + off) v ∷ [])
    whole-scattered off half v even fits within =
        let w = word (l4 + off) v in
        let order = laid ip src in
        scattered-last at count with_header w header-scattered
        (apart-append w named header_word
        (apart-append w addresses (ports_of b sp dp o)
        (apart-between w (source_at ip src) l4 addresses addresses-between (inr (omega arith)))
        (ports-apart b sp dp o off v fits))
        (apart-between w (front_at ip src) (source_at ip src) header_word header-between (inr (omega (arith, order.source, order.end, least)))))
        ((4 + 2 * m + half, (omega (arith, even), omega (arith, even, within))), (tt, tt))

    pub header-apart : (w : WordAt) → w.at ≡ at + 2 → Apart w with_header
    header-apart w place =
        let order = laid ip src in
        apart-append w named header_word
        (apart-inside at count (source_at ip src) w named (omega (arith, place, order.least, order.front)) named-inside)
        (apart-between w (front_at ip src) (source_at ip src) header_word header-between (inl (omega (arith, place, order.least))))

    pub with_header-fits : HasBytes bytes → PortFits sp → PortFits dp → PortFits o → AllFit with_header
    with_header-fits small p q r =
        fit-append named header_word
        (fit-append addresses (ports_of b sp dp o)
        (fit-append sources destinations (end-fits src (source_at ip src) from) (end-fits src (destination_at ip src) to))
        (ports-fit b sp dp o p q r))
        (header-fits src bytes ip addresses small)

-- a sum that follows is one, whatever stands for 0
after-small : (empty : ℕ) → empty < 2 ^ 16 → (bytes : List ℕ) (ws : List WordAt) (sum : ℕ) → sum < 2 ^ 16
    → sum_after empty bytes ws sum < 2 ^ 16
after-small empty e bytes [] sum s = s
after-small empty e bytes (w ∷ ws) sum s =
    let old = number16 bytes w.at in
    let one : sum_after_word empty sum old w.value < 2 ^ 16 = grind (arith, nat_tests, e) in
    after-small empty e bytes ws _ one

ends : (ws : List WordAt) → ws ++ [] ≡ ws
ends [] = refl
ends (w ∷ ws) = ap (λ vs. w ∷ vs) (ends ws)

offset-fits : (x y : Bool) → OffsetFits (x || y) (if x then 16 else (if y then 6 else 2))
offset-fits true y = omega arith
offset-fits false true = omega arith
offset-fits false false = refl

offset-even : (x y : Bool)
    → (if x then 16 else (if y then 6 else 2)) ≡ 2 * (if x then 8 else (if y then 3 else 1))
offset-even true y = refl
offset-even false true = refl
offset-even false false = refl

chosen-between : (b : Bool) (src : Addr) (at : ℕ) (end : Option End)
    → Between at (at + address_size src) (end_words at (if b then fitting src end else None))
chosen-between true src at end = end-between src at end
chosen-between false src at end = tt

chosen-fits : (b : Bool) (src : Addr) (at : ℕ) (end : Option End) → AllFit (end_words at (if b then fitting src end else None))
chosen-fits true src at end = end-fits src at end
chosen-fits false src at end = tt

chosen-inside : (b : Bool) (src : Addr) (lo n at k : ℕ) (end : Option End) → at ≡ lo + 2 * k
    → k + length (shifts src) ≤ n → Inside lo n at (end_words at (if b then fitting src end else None))
chosen-inside true src lo n at k end e h = end-inside src lo n at k end e h
chosen-inside false src lo n at k end e h = tt

-- a quoted sum that follows is one
module _ (bytes : List ℕ) (quoted : HeaderEnds) (ports : List WordAt) where
  abbrev by_all : List WordAt
  by_all = header_addresses quoted ++ ports

  value4-small : (x y z : Bool) (s : ℕ) → s < 2 ^ 16
      → (if x then sum_after 0 bytes by_all s
      else (if y then (if z then 0 else sum_after 0xffff bytes by_all s) else sum_after 0 bytes ports s)) < 2 ^ 16
  value4-small true y z s k = after-small 0 (omega arith) bytes by_all s k
  value4-small false true true s k = omega arith
  value4-small false true false s k = after-small 0xffff (omega arith) bytes by_all s k
  value4-small false false z s k = after-small 0 (omega arith) bytes ports s k

  value6-small : (y : Bool) (s : ℕ) → s < 2 ^ 16
      → (if y then sum_after 0xffff bytes by_all s else sum_after 0 bytes by_all s) < 2 ^ 16
  value6-small true s k = after-small 0xffff (omega arith) bytes by_all s k
  value6-small false s k = after-small 0 (omega arith) bytes by_all s k

  quoted-small : (src : Addr) (proto s : ℕ) → s < 2 ^ 16 → quoted_sum_after bytes quoted ports src proto s < 2 ^ 16
  quoted-small (V4 a) proto s k = value4-small (proto == 6) (proto == 17) (s == 0) s k
  quoted-small (V6 a) proto s k = value6-small (proto == 17) s k

-- the words in front that an error's sum counts
counted-fits : (src : Addr) (outer : HeaderEnds) → AllFit (header_addresses outer) → AllFit (counted_outer src outer)
counted-fits (V4 a) outer fits = tt
counted-fits (V6 a) outer fits = fits

-- an error whose quoted header has `m` words of four bytes
module _ (bytes translated : List ℕ) (src dst : Addr) (proto ip_at at end : ℕ) (carried : L4) (change : Change)
    (quoted_src quoted_dst : Addr) (p sport dport m : ℕ) where
  abbrev pub facts : Facts
  facts = record { src = src; dst = dst; proto = proto; ip_at = ip_at; l4_at = at; end = end; l4 = carried }

  abbrev off : ℕ
  off = if p == 6 then 16 else (if p == 17 then 6 else 2)

  abbrev place : ℕ
  place = at + 8 + 4 * m + off

  abbrev pub inner : Inner
  inner = record {
    src = quoted_src;
    dst = quoted_dst;
    proto = p;
    sport = sport;
    dport = dport;
    ip_at = at + 8;
    l4_at = at + 8 + 4 * m;
    sum_at = whole_sum_at place end;
  }

  abbrev outer : HeaderEnds
  outer = outer_ends facts inner change

  abbrev quoted : HeaderEnds
  quoted = quoted_ends facts inner change

  abbrev port_writes : List WordAt
  port_writes = quoted_ports inner quoted

  abbrev upper_words : Option ℕ → List WordAt
  upper_words o = word_list (quoted_sum bytes quoted port_writes p o)

  abbrev before_sum : List WordAt
  before_sum = header_addresses quoted ++ port_writes ++ word_list (quoted_header_sum bytes quoted port_writes)

  abbrev counted_words : Bool → List WordAt
  counted_words t = before_sum ++ upper_words (if t then Some place else None)

  abbrev in_front : List WordAt
  in_front = counted_outer src outer

  abbrev source_port : Option ℕ
  source_port = named_port (fitting src change.dst)

  abbrev destination_port : Option ℕ
  destination_port = named_port (fitting src change.src)

  module _ (small : HasBytes bytes) (fits : PortsFit facts change) (room : HasRoom (length bytes) facts)
      (long : 5 ≤ m) (least : least_ip_header src ≤ 4 * m) (upper : at + 8 + 4 * m + 8 ≤ end) where
    number-small : (k : ℕ) → number16 bytes k < 2 ^ 16
    number-small k = omega (arith, small k, small (k + 1))

    before-fits : AllFit before_sum
    before-fits =
        with_header-fits src at end m long least upper bytes change.dst change.src (p == 6 || p == 17) source_port destination_port
        (option_or destination_port source_port) small fits.dst fits.src (either-fits _ _ fits.src fits.dst)

    whole-fits : (t : Bool) → AllFit (counted_words t)
    whole-fits true =
        fit-append before_sum (upper_words (Some place)) before-fits
        (quoted-small bytes quoted port_writes src p (number16 bytes place) (number-small place), tt)
    whole-fits false = subst AllFit (sym (ends before_sum)) before-fits

    outer-fits : AllFit (header_addresses outer)
    outer-fits =
        fit-append (end_words (source_at ip_at src) outer.src) (end_words (destination_at ip_at src) outer.dst)
        (chosen-fits (is_same_address src inner.dst) src (source_at ip_at src) change.src)
        (end-fits src (destination_at ip_at src) change.dst)

    whole-there : (t : Bool) → nat_le (place + 2) end ≡ t → Scattered at ((end - at) / 2) (counted_words t)
    whole-there true is =
        whole-scattered src at end m long least upper bytes change.dst change.src (p == 6 || p == 17) source_port destination_port
        (option_or destination_port source_port) off (if p == 6 then 8 else (if p == 17 then 3 else 1))
        (quoted_sum_after bytes quoted port_writes src p (number16 bytes place))
        (offset-even (p == 6) (p == 17)) (offset-fits (p == 6) (p == 17)) (grind (arith, nat_tests, is))
    whole-there false is =
        subst (λ ws. Scattered at ((end - at) / 2) ws) (sym (ends before_sum))
        (header-scattered src at end m long least upper bytes change.dst change.src (p == 6 || p == 17) source_port destination_port
        (option_or destination_port source_port))

    before-apart : (w : WordAt) → w.at ≡ at + 2 → Apart w before_sum
    before-apart w e =
        header-apart src at end m long least upper bytes change.dst change.src (p == 6 || p == 17) source_port destination_port
        (option_or destination_port source_port) w e

    whole-apart : (t : Bool) (w : WordAt) → w.at ≡ at + 2 → Apart w (counted_words t)
    whole-apart true w e =
        apart-append w before_sum (upper_words (Some place)) (before-apart w e) (inr (omega (arith, e)), tt)
    whole-apart false w e = subst (λ ws. Apart w ws) (sym (ends before_sum)) (before-apart w e)

    abbrev counted : List WordAt
    counted = counted_words (nat_le (place + 2) end)

    abbrev told : WordAt
    told = error_sum bytes quoted port_writes at inner outer

    abbrev outer_word : List WordAt
    outer_word = word_list (header_sum bytes ip_at src (header_addresses outer))

    outer-between : Between ip_at at (header_addresses outer)
    outer-between =
        let order = laid ip_at src in
        between-append ip_at at (end_words (source_at ip_at src) outer.src) (end_words (destination_at ip_at src) outer.dst)
        (wider (source_at ip_at src) (source_at ip_at src + address_size src) ip_at at (end_words (source_at ip_at src) outer.src)
        (omega (arith, order.least, order.front)) (omega (arith, order.source, order.end, room.upper))
        (chosen-between (is_same_address src inner.dst) src (source_at ip_at src) change.src))
        (wider (destination_at ip_at src) (destination_at ip_at src + address_size src) ip_at at (end_words (destination_at ip_at src) outer.dst)
        (omega (arith, order.least, order.front, order.source)) (omega (arith, order.end, room.upper)) (end-between src (destination_at ip_at src) change.dst))

    outer_word-between : Between ip_at at outer_word
    outer_word-between =
        let order = laid ip_at src in
        wider (front_at ip_at src) (source_at ip_at src) ip_at at outer_word (omega (arith, order.least))
        (omega (arith, order.source, order.end, room.upper)) (header_sum-between bytes ip_at src (header_addresses outer))

    module _ (adjusts : change.neutral ≡ false) (written : ErrorTranslated bytes facts inner change translated) where
      written-there : (k : ℕ) → slice_index translated k
          ≡ byte_there (header_addresses outer ++ header_addresses quoted ++ port_writes
          ++ (word_list (quoted_header_sum bytes quoted port_writes) ++ upper_words inner.sum_at ++ outer_word ++ told ∷ [])) k (slice_index bytes k)
      written-there k =
          written.each k
          ∙ ap (λ x. byte_there (error_writes outer quoted port_writes
          ++ (if x then [] else error_sums bytes quoted port_writes at inner outer)) k (slice_index bytes k)) adjusts

      pub follows : (x y : ℕ) → y + olds (slice_index bytes) in_front ≡ x + news in_front
          → (x + carried_total (slice_index bytes) at end) % 65535 ≡ 0
          → (y + carried_total (slice_index translated) at end) % 65535 ≡ 0
      follows x y moved was =
          let t = nat_le (place + 2) end in
          counted-follows bytes translated at end small in_front counted (counted-fits src outer outer-fits) (whole-fits t)
          (omega (arith, upper)) (whole-apart t told refl) (whole-there t refl)
          (λ k from. written-there k
          ∙ behind-there (header_addresses outer) (header_addresses quoted) port_writes
          (word_list (quoted_header_sum bytes quoted port_writes)) (upper_words inner.sum_at) outer_word (told ∷ []) ip_at at k
          (slice_index bytes k) from outer-between outer_word-between)
          x y moved was

      -- the outer addresses, where no header has a sum
      addresses-follow : outer_word ≡ []
          → addresses_total (slice_index translated) ip_at src + olds (slice_index bytes) (header_addresses outer)
          ≡ addresses_total (slice_index bytes) ip_at src + news (header_addresses outer)
      addresses-follow none =
          let order = laid ip_at src in
          let lo = source_at ip_at src in
          let n = 2 * length (shifts src) in
          let f = slice_index bytes in
          let g = slice_index translated in
          let t = nat_le (place + 2) end in
          let o = header_addresses outer in
          let inside = inside-append lo n lo (lo + address_size src) lo (end_words lo outer.src) (end_words (destination_at ip_at src) outer.dst) (omega arith)
          (chosen-inside (is_same_address src inner.dst) src lo n lo 0 change.src (omega arith) (omega arith))
          (chosen-between (is_same_address src inner.dst) src lo change.src)
          (rw order.source (end-inside src lo n (destination_at ip_at src) (length (shifts src)) change.dst (omega (arith, order.source)) (omega arith))) in
          let total = words_total-after f lo n lo o inside in
          let all = scattered-between at ((end - at) / 2) (counted ++ told ∷ [])
          (scattered-last at ((end - at) / 2) counted told (whole-there t refl) (whole-apart t told refl)
          ((1, (omega arith, omega (arith, upper))), (tt, tt))) in
          let same = words_total-same g (after o f) lo n (λ k from to. written-there k
          ∙ front-there o (header_addresses quoted) port_writes (word_list (quoted_header_sum bytes quoted port_writes))
          (upper_words inner.sum_at) outer_word (told ∷ []) at (at + 2 * ((end - at) / 2)) k (f k)
          (omega (arith, to, order.source, order.end, room.upper)) all none) in
          omega (arith, total, same, addresses_total-is f ip_at src, addresses_total-is g ip_at src)

      -- with the pseudo-header of ICMPv6
      pub pseudo-follows : outer_word ≡ [] → in_front ≡ header_addresses outer
          → pseudo_total (slice_index bytes) facts % 65535 ≡ 0
          → pseudo_total (slice_index translated) facts % 65535 ≡ 0
      pseudo-follows none front was =
          let f = slice_index bytes in
          let g = slice_index translated in
          let moved = addresses-follow none in
          follows (addresses_total f ip_at src + (proto + (end - at))) (addresses_total g ip_at src + (proto + (end - at)))
          (omega (arith, moved, ap (olds f) front, ap news front)) was

-- an error of this family, by its facts
abbrev built : Facts → Addr → Facts
built facts src = record {
  src = src;
  dst = facts.dst;
  proto = facts.proto;
  ip_at = facts.ip_at;
  l4_at = facts.l4_at;
  end = facts.end;
  l4 = facts.l4;
}

module _ (bytes translated : List ℕ) (given : Facts) (change : Change) (a : ℕ) (small : HasBytes bytes) (adjusts : change.neutral ≡ false) where
  follows4 : PortsFit (built given (V4 a)) change → HasRoom (length bytes) (built given (V4 a)) → is_error bytes (built given (V4 a)) ≡ true
      → ErrorTranslated bytes (built given (V4 a)) (error_in bytes (built given (V4 a))) change translated
      → carried_total (slice_index bytes) given.l4_at given.end % 65535 ≡ 0
      → carried_total (slice_index translated) given.l4_at given.end % 65535 ≡ 0
  follows4 fits room error written was =
      let i = error_in bytes (built given (V4 a)) in
      let m = slice_index bytes (given.l4_at + 8) % 16 in
      let long : 5 ≤ m = grind (arith, nat_tests, error) in
      let upper : given.l4_at + 8 + 4 * m + 8 ≤ given.end = grind (arith, nat_tests, error) in
      let follow = follows bytes translated (V4 a) given.dst given.proto given.ip_at given.l4_at given.end given.l4 change
      i.src i.dst i.proto i.sport i.dport m small fits room long (omega (arith, long)) upper adjusts written 0 0 refl
      (omega (arith, was)) in
      omega (arith, follow)

  follows6 : PortsFit (built given (V6 a)) change → HasRoom (length bytes) (built given (V6 a)) → is_error bytes (built given (V6 a)) ≡ true
      → ErrorTranslated bytes (built given (V6 a)) (error_in bytes (built given (V6 a))) change translated
      → pseudo_total (slice_index bytes) (built given (V6 a)) % 65535 ≡ 0
      → pseudo_total (slice_index translated) (built given (V6 a)) % 65535 ≡ 0
  follows6 fits room error written was =
      let i = error_in bytes (built given (V6 a)) in
      let upper : given.l4_at + 8 + 4 * 10 + 8 ≤ given.end = grind (arith, nat_tests, error) in
      pseudo-follows bytes translated (V6 a) given.dst given.proto given.ip_at given.l4_at given.end given.l4 change
      i.src i.dst i.proto i.sport i.dport 10 small fits room (omega arith) (omega arith) upper adjusts written refl refl was

pub error_sum_follows_lem : ErrorSumFollows
error_sum_follows_lem bytes translated given inner-given change a small fits family room error adjusts written was =
    let P : Facts → Type 0 = λ fs. PortsFit fs change → HasRoom (length bytes) fs → IsError bytes fs inner-given
    → ErrorTranslated bytes fs inner-given change translated
    → carried_total (slice_index bytes) fs.l4_at fs.end % 65535 ≡ 0
    → carried_total (slice_index translated) fs.l4_at fs.end % 65535 ≡ 0 in
    let there : P (built given (V4 a)) = λ ports has is says sum.
    follows4 bytes translated given change a small adjusts ports has is.error
    (subst (λ i. ErrorTranslated bytes (built given (V4 a)) i change translated) is.is says) sum in
    subst P (sym (ap (built given) family)) there fits room error written was

pub icmpv6_error_sum_follows_lem : Icmpv6ErrorSumFollows
icmpv6_error_sum_follows_lem bytes translated given inner-given change a small fits family room error adjusts written was =
    let P : Facts → Type 0 = λ fs. PortsFit fs change → HasRoom (length bytes) fs → IsError bytes fs inner-given
    → ErrorTranslated bytes fs inner-given change translated
    → pseudo_total (slice_index bytes) fs % 65535 ≡ 0
    → pseudo_total (slice_index translated) fs % 65535 ≡ 0 in
    let there : P (built given (V6 a)) = λ ports has is says sum.
    follows6 bytes translated given change a small adjusts ports has is.error
    (subst (λ i. ErrorTranslated bytes (built given (V6 a)) i change translated) is.is says) sum in
    subst P (sym (ap (built given) family)) there fits room error written was
