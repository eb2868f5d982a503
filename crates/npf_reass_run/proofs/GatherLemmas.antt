-- The list of a class, once all is offered, has the class's pieces in the order of their packets.
use Rattle.std.proofs.Common.{◌≡◌, ℕ, ◌-◌, ◌<◌, ◌≤◌, ◌==◌, ◌∙◌, Bool, ⊎_elim, zero, suc, refl, sym, ap, subst, arith, Global, Vec}
use Rattle.std.{proofs.Common.{List, [], ◌∷◌, length, map, take, get_or, slice_range}, specs.{Prelude.{All, Contains, IsPermutation, filter}, List.AllZip}}
use Rattle.std.proofs.lemmas.List.{length-map, take_all, Elements.{All-contains_itself, All-filter, All-get_or, All-head, All-map, All-tail, All-weaker}}
use Rattle.std.proofs.lemmas.List.Sorted.{IsNonDecreasingBy-from_sort}
use Rattle.npf_shelf.proofs.ListLemmas.{Contains-first, Contains-later}
use Rattle.npf_traffic.specs.declared.packet.Packet.{Packet}
use Rattle.npf_pieces.specs.declared.{arrived.Arrived.Arrived, piece.{Piece.Piece, Seen.Seen}}
use Rattle.npf_reass_sets.{specs.{declared.class.ClassSets.ClassSets, Among.arrived_from}, proofs.FilterLemmas.{few_same, filter_every, filters_swap}}
use Rattle.npf_reass_sets.proofs.RiseLemmas.{AreAbove, Rise, dont_fall, one_at_most, one_order, rise_filter}
use Rattle.npf_reass_whole.proofs.AmongLemmas.{all_zip_at, all_zip_long, at_place}
use Rattle.npf_reass.specs.{declared.offer.Offer.Offer, Class.{class_of, of_class, offered}, Listing.{IsByNumber, ListsClasses}}
use Rattle.npf_reass.specs.Sight.{IsOwnNumber, ReassSight}
use Rattle.npf_reass_run.specs.Gathering.{GathersPieces, IsArrivedOffer, IsOfferAmong, class_pieces}
use Rattle.npf_reass_run.{specs.Offer.{HasOffered, is_number_among, of_place, own_pieces, placed}, proofs.FilterLemmas.filter_map_same}
use Rattle.npf_reass_run.proofs.{ListLemmas.{IsClassOf, OfferList, some_of}, OfferLemmas.listed_is}

abbrev Offers : Type 0
Offers = List (ℕ × Piece)

abbrev pub number_of : ℕ × Piece → ℕ
number_of offer = offer.0

-- places of pieces rise
above_from : (low first : ℕ) (packets : List Packet) (seens : List Seen) → low < first
    → AreAbove number_of low (map placed (arrived_from first packets seens))
above_from low first [] seens h = tt
above_from low first (p ∷ packets) [] h = tt
above_from low first (p ∷ packets) (Seen.NoFragment ∷ seens) h =
    above_from low (suc first) packets seens (omega (arith, h))
above_from low first (p ∷ packets) (Seen.Bad ∷ seens) h =
    above_from low (suc first) packets seens (omega (arith, h))
above_from low first (p ∷ packets) (Seen.Piece piece ∷ seens) h =
    (h, above_from low (suc first) packets seens (omega (arith, h)))

pub rise_from : (first : ℕ) (packets : List Packet) (seens : List Seen)
    → Rise number_of (map placed (arrived_from first packets seens))
rise_from first [] seens = tt
rise_from first (p ∷ packets) [] = tt
rise_from first (p ∷ packets) (Seen.NoFragment ∷ seens) = rise_from (suc first) packets seens
rise_from first (p ∷ packets) (Seen.Bad ∷ seens) = rise_from (suc first) packets seens
rise_from first (p ∷ packets) (Seen.Piece piece ∷ seens) =
    (above_from first (suc first) packets seens (omega arith), rise_from (suc first) packets seens)

-- a piece that is the offered one, with the time of its packet, is the piece
abbrev HasTime : List Packet → Arrived → Type 0
HasTime packets a = (d : Packet) → (get_or packets a.place d).time ≡ a.time

one_arrived : (a b : Arrived) → a.place ≡ b.place → a.time ≡ b.time → a.piece ≡ b.piece → a ≡ b
one_arrived a b place time piece =
    ap (λ (n : ℕ). let x : Arrived = record { place = n; time = a.time; piece = a.piece } in x) place
    ∙ ap (λ (n : ℕ). let x : Arrived = record { place = b.place; time = n; piece = a.piece } in x) time
    ∙ ap (λ (p : Piece). let x : Arrived = record { place = b.place; time = b.time; piece = p } in x)
    piece

same_arrived : (packets : List Packet) (mine xs : List Arrived) → All (HasTime packets) mine
    → All (IsOfferAmong packets) (map placed mine)
    → AllZip (IsArrivedOffer packets) (map placed mine) xs → xs ≡ mine
same_arrived packets [] [] timed among all = refl
same_arrived packets [] (x ∷ xs) timed among all = absurd all
same_arrived packets (m ∷ mine) [] timed among all = absurd all
same_arrived packets (m ∷ mine) (x ∷ xs) timed among all =
    let here = All-head (IsOfferAmong packets) (placed m) (map placed mine) among in
    let d = some_of packets m.place here in
    let time = all.0.time d ∙ All-head (HasTime packets) m mine timed d in
    let is : x ≡ m = one_arrived x m all.0.place time all.0.piece in
    let behind = same_arrived packets mine xs (All-tail (HasTime packets) m mine timed)
    (All-tail (IsOfferAmong packets) (placed m) (map placed mine) among) all.1 in
    ap (λ (y : Arrived). y ∷ xs) is ∙ ap (λ (l : List Arrived). m ∷ l) behind

-- each offer is of this pass, or of one that it took in
abbrev pub AreOwn : ReassSight → Type 0
AreOwn sight = (offer : Offer) → Contains sight.history offer → IsOwnNumber sight offer.seat

module _ (packets : List Packet) (sight : ReassSight) (has : HasOffered 0 packets sight)
    (alone : AreOwn sight) where
  abbrev arrived : List Arrived
  arrived = arrived_from 0 packets has.seens

  abbrev numbers : List ℕ
  numbers = sight.number ∷ sight.joined

  own_number : (x : Offer) → Contains sight.history x → Contains numbers x.seat
  own_number x c = ⊎_elim
      (λ (e : x.seat ≡ sight.number).
      subst (λ (n : ℕ). Contains numbers n) (sym e) (Contains-first sight.number sight.joined))
      (λ (k : Contains sight.joined x.seat). Contains-later sight.number x.seat sight.joined k)
      (alone x c)

  every : own_pieces sight ≡ map offered sight.history
  every = ap (map offered) (filter_every (λ (x : Offer). is_number_among numbers x.seat) sight.history
      (λ x c. listed_is numbers x.seat (own_number x c)))

  each_place : (place : ℕ)
      → of_place place (map offered sight.history) ≡ of_place place (map placed arrived)
  each_place place = ap (of_place place) (sym every) ∙ has.each place

  timed : (a : Arrived) → Contains arrived a → HasTime packets a
  timed a c d =
      let x = at_place 0 packets has.seens a c in
      subst (λ (n : ℕ). (get_or packets n d).time ≡ a.time) (omega arith) (x.time d)

  among : (a : Arrived) → Contains arrived a → IsOfferAmong packets (placed a)
  among a c = let x = at_place 0 packets has.seens a c in omega (arith, x.here)

  module _ (classes class : ℕ) where
    abbrev is_of_class : ℕ × Piece → Bool
    is_of_class offer = class_of classes offer.1.key == class

    abbrev is_mine : Arrived → Bool
    is_mine a = class_of classes a.piece.key == class

    abbrev mine : List Arrived
    mine = class_pieces classes class arrived

    mine_placed : map placed mine ≡ filter is_of_class (map placed arrived)
    mine_placed = sym (filter_map_same placed is_of_class arrived)

    class_offers : of_class classes class sight.history
        ≡ filter is_of_class (map offered sight.history)
    class_offers = sym (filter_map_same offered is_of_class sight.history)

    same_places : (place : ℕ) → of_place place (of_class classes class sight.history)
        ≡ of_place place (map placed mine)
    same_places place =
        let at = λ (offer : ℕ × Piece). offer.0 == place in
        ap (of_place place) class_offers
        ∙ filters_swap at is_of_class (map offered sight.history)
        ∙ ap (filter is_of_class) (each_place place)
        ∙ sym (filters_swap at is_of_class (map placed arrived))
        ∙ ap (of_place place) (sym mine_placed)

    mine_rise : Rise number_of (map placed mine)
    mine_rise =
        subst (Rise number_of) (sym mine_placed)
        (rise_filter number_of is_of_class (map placed arrived) (rise_from 0 packets has.seens))

    few : (place : ℕ) → length (of_place place (of_class classes class sight.history)) ≤ 1
    few place =
        let most = one_at_most number_of place (map placed mine) mine_rise in
        omega (arith, most, ap length (same_places place))

    -- the list of the class has its pieces
    list_is : (list : Offers) → IsPermutation (of_class classes class sight.history) list
        → IsByNumber list → list ≡ map placed mine
    list_is list same sorted =
        let all = of_class classes class sight.history in
        let falls = dont_fall number_of list (IsNonDecreasingBy-from_sort number_of list sorted) in
        one_order number_of list (map placed mine) falls mine_rise
        (λ place. few_same (λ (offer : ℕ × Piece). offer.0 == place) all list same (few place)
        ∙ same_places place)

    mine_all : (P : Arrived → Type 0) → ((a : Arrived) → Contains arrived a → P a) → All P mine
    mine_all P each =
        All-filter is_mine P arrived
        (All-weaker (Contains arrived) P each arrived (All-contains_itself arrived))

    mine_among : All (IsOfferAmong packets) (map placed mine)
    mine_among =
        All-map (IsOfferAmong packets) placed mine
        (mine_all (λ (a : Arrived). IsOfferAmong packets (placed a)) among)

    class_is : (list : Offers) (xs : List Arrived) → list ≡ map placed mine
        → AllZip (IsArrivedOffer packets) list xs → xs ≡ mine
    class_is list xs is all =
        same_arrived packets mine xs (mine_all (HasTime packets) timed) mine_among
        (subst (λ (l : Offers). AllZip (IsArrivedOffer packets) l xs) is all)

at_items : (lists : List OfferList) (i : ℕ) (x : OfferList) (d : Offers) → i < length lists
    → get_or (map (λ list. list.items) lists) i d ≡ (get_or lists i x).items
at_items [] i x d h = absurd (omega (arith, h))
at_items (y ∷ lists) zero x d h = refl
at_items (y ∷ lists) (suc i) x d h = at_items lists i x d (omega (arith, h))

pub all_packets : (packets : List Packet) (sight : ReassSight)
    → HasOffered 0 (slice_range packets 0 (length packets)) sight → HasOffered 0 packets sight
all_packets packets sight has =
    let none : length packets - 0 ≡ length packets = omega arith in
    let whole = take_all (length packets) packets (omega arith) in
    subst (λ (ps : List Packet). HasOffered 0 ps sight)
    (ap (λ (n : ℕ). take n packets) none ∙ whole) has

abbrev pub ClassVec : Type 0
ClassVec = Vec ClassSets Global

-- the classes of the lists of all that was offered
module _ (packets : List Packet) (sight : ReassSight) (has : HasOffered 0 packets sight)
    (alone : AreOwn sight) (classes : ℕ) (lists : List OfferList)
    (told : ListsClasses classes sight.history (map (λ list. list.items) lists)) where
  abbrev pieces : ℕ → List Arrived
  pieces class = class_pieces classes class (arrived_from 0 packets has.seens)

  long : length lists ≡ classes
  long = omega (arith, told.count, length-map lists (λ (list : OfferList). list.items))

  is_list : (class : ℕ) (d : OfferList) → class < length lists
      → (get_or lists class d).items ≡ map placed (pieces class)
  is_list class d h =
      let here = at_items lists class d [] h in
      let same = told.each class [] (omega (arith, h, long)) in
      let sorted = All-get_or IsByNumber (map (λ list. list.items) lists) class []
      (omega (arith, h, long, told.count)) told.sorted in
      list_is packets sight has alone classes class (get_or lists class d).items
      (subst (λ (l : Offers). IsPermutation (of_class classes class sight.history) l) here same)
      (subst IsByNumber here sorted)

  pub lists_among : All (λ (list : OfferList). All (IsOfferAmong packets) list.items) lists
  lists_among class d h =
      subst (All (IsOfferAmong packets)) (sym (is_list class d h))
      (mine_among packets sight has alone classes class)

  module _ (made : List ClassSets) (all : AllZip (IsClassOf packets) lists made) where
    pub made_count : length made ≡ classes
    made_count = sym (all_zip_long (IsClassOf packets) lists made all) ∙ long

    each_class : (class : ℕ) (d : ClassSets) → class < length made
        → (get_or made class d).arrived.items ≡ pieces class
    each_class class d h =
        let below : class < length lists = omega (arith, h, made_count, long) in
        let list = some_of lists class below in
        class_is packets sight has alone classes class (get_or lists class list).items
        (get_or made class d).arrived.items (is_list class list below)
        (all_zip_at (IsClassOf packets) lists made class list d all below)

    pub made_gathers : GathersPieces packets made
    made_gathers = record {
      seens = has.seens;
      sees = has.sees;
      each = λ class d h.
          each_class class d h
          ∙ ap (λ (n : ℕ). class_pieces n class (arrived_from 0 packets has.seens))
          (sym made_count);
    }
