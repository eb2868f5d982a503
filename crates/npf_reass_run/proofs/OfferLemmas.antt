-- What a pass has offered goes on by its own offers and by those of the passes that it takes in.
use Rattle.std.proofs.Common.{◌≡◌, ◌≢◌, ◌⊎◌, ℕ, ◌+◌, ◌-◌, ◌<◌, ◌≤◌, ◌==◌, ◌∙◌, ◌||◌, Bool, true, false}
use Rattle.std.proofs.Common.{inl, inr, ⊎_elim, suc, refl, sym, ap, subst, append-nil, append_assoc, arith}
use Rattle.std.proofs.{Common.{List, [], ◌∷◌, ◌++◌, length, map, take, drop, get_or, slice_range, Ok, Err, Result, OnOk, is_err}, Math.Seq.take-add}
use Rattle.std.specs.{Prelude.{Contains, filter}, List.{AllZip, list_any}, Result.result_and}
use Rattle.std.proofs.lemmas.Bool.{cases_lt, eq-eqb, eqb-true, false_from_ne_true, ne_eqb}
use Rattle.std.proofs.lemmas.List.{drop-drop, get_or-drop, length-drop, length-take, map-append, take_more, Elements.filter-append}
use Rattle.std.proofs.lemmas.List.Folds.{list_any-append, list_any_at}
use mathlib.Core.Bool.{or_assoc, or_comm}
use Rattle.npf_shelf.proofs.ListLemmas.{Contains-cons_cases, Contains-first, Contains-later}
use Rattle.npf_core.specs.History.{IsPrefix}
use Rattle.npf_seats.{specs.Seats.by_seat, proofs.PrefixLemmas.{none_listed, rest_none, seen_entry}}
use Rattle.npf_traffic.specs.declared.packet.Packet.{Packet}
use Rattle.npf_pieces.specs.declared.{arrived.Arrived.Arrived, piece.{Piece.Piece, Seen.Seen}}
use Rattle.npf_reass_sets.{specs.Among.{arrived_at, arrived_from}, proofs.FilterLemmas.{filter_kept, filter_left, filter_none}}
use Rattle.npf_reass_whole.{specs.Run.IsSeenAs, proofs.AmongLemmas.all_zip_long}
use Rattle.npf_reass.specs.{declared.offer.Offer.Offer, Class.{offer_seat, offered}, Sight.{AddsOffer, JoinsSight, ReassSight, SplitsSight}}
use Rattle.npf_reass_run.{specs.Offer.{HasOffered, OffersPacket, is_number_among, of_place, own_pieces, placed}, proofs.FilterLemmas.either_kept}

listed_more : (m n : ℕ) (numbers : List ℕ) (b : Bool) → (m == n) ≡ b
    → (b || is_number_among numbers n) ≡ true → (is_number_among numbers n ≡ true → Contains numbers n)
    → Contains (m ∷ numbers) n
listed_more m n numbers true e h more =
    subst (λ (k : ℕ). Contains (m ∷ numbers) k) (eqb-true m n e) (Contains-first m numbers)
listed_more m n numbers false e h more = Contains-later m n numbers (more h)

is_listed : (numbers : List ℕ) (n : ℕ) → is_number_among numbers n ≡ true → Contains numbers n
is_listed [] n h = cc
is_listed (m ∷ numbers) n h = listed_more m n numbers (m == n) refl h (is_listed numbers n)

pub listed_is : (numbers : List ℕ) (n : ℕ) → Contains numbers n → is_number_among numbers n ≡ true
listed_is numbers n c =
    list_any_at (λ (m : ℕ). m == n) numbers c.0 n c.1 (eq-eqb (get_or numbers c.0 n) n c.2)

abbrev of_one : List ℕ → Offer → Bool
of_one numbers offer = is_number_among numbers offer.seat

-- these numbers have no offers
abbrev HaveNone : List ℕ → List Offer → Type 0
HaveNone numbers offers = (n : ℕ) → Contains numbers n → by_seat offer_seat n offers ≡ []

none_of : (numbers : List ℕ) (xs : List Offer) → HaveNone numbers xs
    → filter (of_one numbers) xs ≡ []
none_of numbers xs none =
    filter_none (of_one numbers) xs (λ x c. false_from_ne_true (of_one numbers x)
    (λ e. seen_entry offer_seat xs x (none x.seat (is_listed numbers x.seat e)) c))

-- a longer history in which these numbers have no more offers
own_same : (numbers : List ℕ) (old new : List Offer) → IsPrefix old new
    → ((n : ℕ) → Contains numbers n → by_seat offer_seat n new ≡ by_seat offer_seat n old)
    → filter (of_one numbers) new ≡ filter (of_one numbers) old
own_same numbers old new begins same =
    let own = filter (of_one numbers) old in
    let none = none_of numbers begins.rest
    (λ n c. rest_none offer_seat n old new begins (same n c)) in
    ap (filter (of_one numbers)) begins.goes_on
    ∙ filter-append (of_one numbers) old begins.rest
    ∙ ap (λ (more : List Offer). own ++ more) none
    ∙ append-nil own

-- what is said of a number and of listed ones is said of both
of_either : (P : ℕ → Type 0) (own : ℕ) (joined : List ℕ) → P own
    → ((n : ℕ) → Contains joined n → P n) → (n : ℕ) → Contains (own ∷ joined) n → P n
of_either P own joined mine others n c =
    ⊎_elim (λ (e : own ≡ n). subst P e mine) (λ (k : Contains joined n). others n k)
    (Contains-cons_cases own n joined c)

pub adds_own : (old new : ReassSight) (n : ℕ) (piece : Piece) → AddsOffer old new n piece
    → own_pieces new ≡ own_pieces old ++ (n, piece) ∷ []
adds_own old new n piece adds =
    let offer : Offer = record { seat = old.number; n = n; piece = piece } in
    let numbers = old.number ∷ old.joined in
    let own = filter (of_one numbers) old.history in
    let mine : filter (of_one numbers) (offer ∷ []) ≡ offer ∷ [] =
    filter_kept (of_one numbers) offer []
    (listed_is numbers old.number (Contains-first old.number old.joined)) in
    let none = of_either (λ (k : ℕ). by_seat offer_seat k adds.others ≡ [])
    old.number old.joined adds.own adds.listed in
    let last : filter (of_one numbers) (adds.others ++ offer ∷ []) ≡ offer ∷ [] =
    filter-append (of_one numbers) adds.others (offer ∷ [])
    ∙ ap (λ (l : List Offer). l ++ filter (of_one numbers) (offer ∷ []))
    (none_of numbers adds.others none)
    ∙ mine in
    ap own_pieces adds.goes_on
    ∙ ap (map offered) (filter-append (of_one numbers) old.history (adds.others ++ offer ∷ []))
    ∙ ap (λ (more : List Offer). map offered (own ++ more)) last
    ∙ map-append offered own (offer ∷ [])

-- neither the pass nor the one that was split off it offered anything, where nothing was
pub split_none : (old now given : ReassSight) → SplitsSight old now given → own_pieces old ≡ []
    → (own_pieces now ≡ []) × (own_pieces given ≡ [])
split_none old now given splits none =
    let none_of_it = of_either (λ (k : ℕ). by_seat offer_seat k old.history ≡ []) given.number []
    splits.unused (λ n c. absurd (none_listed n c)) in
    let unused = none_of (given.number ∷ []) old.history none_of_it in
    (ap own_pieces splits.left ∙ none, ap own_pieces splits.gives ∙ ap (map offered) unused)

-- pieces of one place alone
at_other : (place at time : ℕ) (seen : Seen) → at ≢ place
    → of_place place (map placed (arrived_at at time seen)) ≡ []
at_other place at time Seen.NoFragment other = refl
at_other place at time Seen.Bad other = refl
at_other place at time (Seen.Piece piece) other =
    filter_left (λ (offer : ℕ × Piece). offer.0 == place) (at, piece) [] (ne_eqb at place other)

of_append : (place : ℕ) (xs ys : List Arrived) → of_place place (map placed (xs ++ ys))
    ≡ of_place place (map placed xs) ++ of_place place (map placed ys)
of_append place xs ys =
    ap (of_place place) (map-append placed xs ys)
    ∙ filter-append (λ (offer : ℕ × Piece). offer.0 == place) (map placed xs) (map placed ys)

outside : (place first : ℕ) (packets : List Packet) (seens : List Seen)
    → (place < first) ⊎ (first + length packets ≤ place)
    → of_place place (map placed (arrived_from first packets seens)) ≡ []
outside place first [] seens out = refl
outside place first (p ∷ packets) [] out = refl
outside place first (p ∷ packets) (s ∷ seens) out =
    let others = of_place place (map placed (arrived_from (suc first) packets seens)) in
    let other : first ≢ place =
    ⊎_elim (λ lt e. absurd (omega (arith, lt, e))) (λ le e. absurd (omega (arith, le, e))) out in
    of_append place (arrived_at first p.time s) (arrived_from (suc first) packets seens)
    ∙ ap (λ (l : List (ℕ × Piece)). l ++ others) (at_other place first p.time s other)
    ∙ outside place (suc first) packets seens
    (⊎_elim (λ lt. inl (omega (arith, lt))) (λ le. inr (omega (arith, le))) out)

arrived_append : (first : ℕ) (ps qs : List Packet) (ss ts : List Seen) → length ps ≡ length ss
    → arrived_from first (ps ++ qs) (ss ++ ts)
    ≡ arrived_from first ps ss ++ arrived_from (first + length ps) qs ts
arrived_append first [] qs [] ts e = ap (λ (n : ℕ). arrived_from n qs ts) (omega arith)
arrived_append first [] qs (s ∷ ss) ts e = absurd (omega (arith, e))
arrived_append first (p ∷ ps) qs [] ts e = absurd (omega (arith, e))
arrived_append first (p ∷ ps) qs (s ∷ ss) ts e =
    let own = arrived_at first p.time s in
    let front = arrived_from (suc first) ps ss in
    let at : suc first + length ps ≡ first + length (p ∷ ps) = omega arith in
    ap (λ (l : List Arrived). own ++ l) (arrived_append (suc first) ps qs ss ts (omega (arith, e)))
    ∙ ap (λ (n : ℕ). own ++ (front ++ arrived_from n qs ts)) at
    ∙ sym (append_assoc own front (arrived_from (first + length (p ∷ ps)) qs ts))

seen_append : (ps qs : List Packet) (ss ts : List Seen) → AllZip IsSeenAs ps ss
    → AllZip IsSeenAs qs ts → AllZip IsSeenAs (ps ++ qs) (ss ++ ts)
seen_append [] qs [] ts all more = more
seen_append [] qs (s ∷ ss) ts all more = absurd all
seen_append (p ∷ ps) qs [] ts all more = absurd all
seen_append (p ∷ ps) qs (s ∷ ss) ts all more = (all.0, seen_append ps qs ss ts all.1 more)

-- what holds of an answer that is Ok, and of one that is where both others are
pub was_ok : {E P : Type 0} (result : Result (Unit {0}) E) → is_err result ≡ false
    → OnOk result P → P
was_ok (Ok u) ok p = p
was_ok (Err e) ok p = cc

pub both_ok : {E P Q R : Type 0} (one two : Result (Unit {0}) E) → OnOk one P → OnOk two Q
    → (P → Q → R) → OnOk (result_and one two) R
both_ok (Ok u) (Ok v) p q r = r p q
both_ok (Ok u) (Err e) p q r = tt
both_ok (Err e) two p q r = tt

pub offers_piece : {E : Type 0} (n : ℕ) (packet : Packet) (old new : ReassSight) (piece : Piece)
    → IsSeenAs packet (Seen.Piece piece) → (result : Result (Unit {0}) E)
    → OnOk result (AddsOffer old new n piece) → OnOk result (OffersPacket n packet old new)
offers_piece n packet old new piece is (Ok u) adds =
    record { seen = Seen.Piece piece; is = is; adds = adds_own old new n piece adds }
offers_piece n packet old new piece is (Err e) adds = tt

-- what was offered is the pieces of the packets, in their order, where the first packet has this place
pub record HasOfferedInOrder (first : ℕ) (packets : List Packet) (sight : ReassSight) : Type 0 where
  pub seens : List Seen
  pub sees : AllZip IsSeenAs packets seens
  pub is : own_pieces sight ≡ map placed (arrived_from first packets seens)

-- a share, packet by packet
pub offered_none : (first : ℕ) (sight : ReassSight) → own_pieces sight ≡ []
    → HasOfferedInOrder first [] sight
offered_none first sight none = record { seens = []; sees = search; is = none }

more_of : (packets : List Packet) (first i : ℕ) (d : Packet) → first ≤ i → i < length packets
    → slice_range packets first (i + 1) ≡ slice_range packets first i ++ get_or packets i d ∷ []
more_of packets first i d order h =
    let front = take (i - first) (drop first packets) in
    let next : i + 1 - first ≡ (i - first) + 1 = omega (arith, order) in
    let within : i - first < length (drop first packets) =
    omega (arith, length-drop first packets, order, h) in
    let at : get_or (drop first packets) (i - first) d ≡ get_or packets i d =
    get_or-drop first packets (i - first) d
    ∙ ap (λ (n : ℕ). get_or packets n d) (omega (arith, order)) in
    ap (λ (n : ℕ). take n (drop first packets)) next
    ∙ take_more (drop first packets) (i - first) d within
    ∙ ap (λ (p : Packet). front ++ p ∷ []) at

pub offered_more : (first i : ℕ) (packets : List Packet) (d : Packet) (old new : ReassSight)
    → first ≤ i → i < length packets
    → HasOfferedInOrder first (slice_range packets first i) old
    → OffersPacket i (get_or packets i d) old new
    → HasOfferedInOrder first (slice_range packets first (i + 1)) new
offered_more first i packets d old new order h has offers =
    let ps = slice_range packets first i in
    let p = get_or packets i d in
    let front = arrived_from first ps has.seens in
    let last = arrived_at i p.time offers.seen in
    let long : first + length ps ≡ i =
    omega (
      arith,
      length-take (i - first) (drop first packets),
      length-drop first packets,
      order,
      h,
    ) in
    let same : length ps ≡ length has.seens = all_zip_long IsSeenAs ps has.seens has.sees in
    let is_last : arrived_from (first + length ps) (p ∷ []) (offers.seen ∷ []) ≡ last =
    append-nil (arrived_at (first + length ps) p.time offers.seen)
    ∙ ap (λ (n : ℕ). arrived_at n p.time offers.seen) long in
    let all : HasOfferedInOrder first (ps ++ p ∷ []) new = record {
      seens = has.seens ++ offers.seen ∷ [];
      sees = seen_append ps (p ∷ []) has.seens (offers.seen ∷ []) has.sees (offers.is, search);
      is = offers.adds
          ∙ ap (λ (l : List (ℕ × Piece)). l ++ map placed last) has.is
          ∙ sym (map-append placed front last)
          ∙ ap (λ (l : List Arrived). map placed (front ++ l)) (sym is_last)
          ∙ ap (map placed)
          (sym (arrived_append first ps (p ∷ []) has.seens (offers.seen ∷ []) same));
    } in
    subst (λ (list : List Packet). HasOfferedInOrder first list new)
    (sym (more_of packets first i d order h)) all

pub in_order : (first : ℕ) (packets : List Packet) (sight : ReassSight)
    → HasOfferedInOrder first packets sight → HasOffered first packets sight
in_order first packets sight has =
    record { seens = has.seens; sees = has.sees; each = λ place. ap (of_place place) has.is }

-- a share and the rest
or_first : (a b c d : Bool) → (a || (b || (c || d))) ≡ ((a || d) || (b || c))
or_first true b c d = refl
or_first false b c d = sym (or_assoc b c d) ∙ or_comm (b || c) d

module _ (first behind : ℕ) (share rest : List Packet) (old other now : ReassSight)
    (at : behind ≡ first + length share) (joins : JoinsSight old other now)
    (has : HasOffered first share old) (others : HasOffered behind rest other) where
  abbrev mine : List ℕ
  mine = old.number ∷ old.joined

  abbrev theirs : List ℕ
  theirs = other.number ∷ other.joined

  abbrev all : List ℕ
  all = old.number ∷ (other.number ∷ (other.joined ++ old.joined))

  both : (x : Offer) → of_one all x ≡ (of_one mine x || of_one theirs x)
  both x =
      let test = λ (m : ℕ). m == x.seat in
      ap (λ (b : Bool). (test old.number) || ((test other.number) || b))
      (list_any-append test other.joined old.joined)
      ∙ or_first (test old.number) (test other.number)
      (list_any test other.joined) (list_any test old.joined)

  mine_same : filter (of_one mine) now.history ≡ filter (of_one mine) old.history
  mine_same = own_same mine old.history now.history joins.mine (of_either
      (λ (n : ℕ). by_seat offer_seat n now.history ≡ by_seat offer_seat n old.history)
      old.number old.joined joins.own joins.kept)

  theirs_same : filter (of_one theirs) now.history ≡ filter (of_one theirs) other.history
  theirs_same = own_same theirs other.history now.history joins.theirs (of_either
      (λ (n : ℕ). by_seat offer_seat n now.history ≡ by_seat offer_seat n other.history)
      other.number other.joined joins.others joins.listed)

  all_pieces : own_pieces now ≡ map offered (filter (of_one all) now.history)
  all_pieces = ap own_pieces joins.takes

  same : length share ≡ length has.seens
  same = all_zip_long IsSeenAs share has.seens has.sees

  module _ (place : ℕ) where
    abbrev of_share : List (ℕ × Piece)
    of_share = of_place place (map placed (arrived_from first share has.seens))

    abbrev of_rest : List (ℕ × Piece)
    of_rest = of_place place (map placed (arrived_from (first + length share) rest others.seens))

    abbrev wanted : List (ℕ × Piece)
    wanted = of_place place
        (map placed (arrived_from first (share ++ rest) (has.seens ++ others.seens)))

    wanted_is : wanted ≡ of_share ++ of_rest
    wanted_is =
        ap (λ (l : List Arrived). of_place place (map placed l))
        (arrived_append first share rest has.seens others.seens same)
        ∙ of_append place (arrived_from first share has.seens)
        (arrived_from (first + length share) rest others.seens)

    mine_has : of_place place (map offered (filter (of_one mine) now.history)) ≡ of_share
    mine_has =
        ap (λ (l : List Offer). of_place place (map offered l)) mine_same ∙ has.each place

    theirs_has : of_place place (map offered (filter (of_one theirs) now.history)) ≡ of_rest
    theirs_has =
        ap (λ (l : List Offer). of_place place (map offered l)) theirs_same
        ∙ others.each place
        ∙ ap (λ (n : ℕ). of_place place (map placed (arrived_from n rest others.seens))) at

    in_share : place < first + length share → of_place place (own_pieces now) ≡ wanted
    in_share lt =
        let none : of_rest ≡ [] =
        outside place (first + length share) rest others.seens (inl lt) in
        ap (of_place place) all_pieces
        ∙ either_kept offered (λ (o : ℕ × Piece). o.0 == place)
        (of_one mine) (of_one theirs) (of_one all) both now.history (theirs_has ∙ none)
        ∙ mine_has
        ∙ sym (wanted_is ∙ ap (λ (l : List (ℕ × Piece)). of_share ++ l) none ∙ append-nil of_share)

    in_rest : first + length share ≤ place → of_place place (own_pieces now) ≡ wanted
    in_rest le =
        let none : of_share ≡ [] = outside place first share has.seens (inr le) in
        ap (of_place place) all_pieces
        ∙ either_kept offered (λ (o : ℕ × Piece). o.0 == place)
        (of_one theirs) (of_one mine) (of_one all)
        (λ x. both x ∙ or_comm (of_one mine x) (of_one theirs x)) now.history (mine_has ∙ none)
        ∙ theirs_has
        ∙ sym (wanted_is ∙ ap (λ (l : List (ℕ × Piece)). l ++ of_rest) none)

  pub joins_offered : HasOffered first (share ++ rest) now
  joins_offered = record {
    seens = has.seens ++ others.seens;
    sees = seen_append share rest has.seens others.seens has.sees others.sees;
    each = λ place. ⊎_elim (in_share place) (in_rest place) (cases_lt place (first + length share));
  }

-- a share and the rest are parts of the packets that follow one another
parts_of : (packets : List Packet) (first mid behind : ℕ) → first ≤ mid → mid ≤ behind
    → slice_range packets first behind
    ≡ slice_range packets first mid ++ slice_range packets mid behind
parts_of packets first mid behind low high =
    let all = drop first packets in
    let share = take (mid - first) all in
    let at : mid ≡ first + (mid - first) = omega (arith, low) in
    let more : drop mid packets ≡ drop (mid - first) all =
    ap (λ (n : ℕ). drop n packets) at ∙ sym (drop-drop (mid - first) first packets) in
    let long : behind - first ≡ (mid - first) + (behind - mid) = omega (arith, low, high) in
    ap (λ (n : ℕ). take n all) long
    ∙ take-add (mid - first) (behind - mid) all
    ∙ ap (λ (l : List Packet). share ++ take (behind - mid) l) (sym more)

-- where both shares were offered, all is
pub all_offered : (packets : List Packet) (mid behind : ℕ) (old other now : ReassSight)
    → mid ≤ behind → behind ≤ length packets → JoinsSight old other now
    → HasOffered 0 (slice_range packets 0 mid) old
    → HasOffered mid (slice_range packets mid behind) other
    → HasOffered 0 (slice_range packets 0 behind) now
all_offered packets mid behind old other now high within joins has others =
    let share = slice_range packets 0 mid in
    let long : mid ≡ 0 + length share =
    omega (arith, length-take (mid - 0) (drop 0 packets), length-drop 0 packets, high, within) in
    subst (λ (list : List Packet). HasOffered 0 list now)
    (sym (parts_of packets 0 mid behind (omega arith) high))
    (joins_offered 0 mid share (slice_range packets mid behind) old other now long joins has others)
