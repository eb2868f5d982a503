-- What the sets of a run say of its packets: their datagrams can be laid out, and each piece is the packet of its place.
use Rattle.std.proofs.Common.{◌≡◌, ℕ, ◌-◌, ◌<◌, ◌≤◌, ◌∙◌, true, sym, ap, subst, List, [], ◌∷◌, ◌++◌, length, drop, take, get_or, append-nil, arith}
use Rattle.std.{specs.{Prelude.{All, Contains}, List.AllZip}, proofs.lemmas.List.{drop_all, take_all}}
use Rattle.std.proofs.lemmas.List.Elements.{All-append, All-contains, All-contains_itself, All-drop, All-filter, All-get_or, All-head, All-map, All-nil, All-tail, All-take, All-weaker}
use Rattle.npf_traffic.specs.{declared.packet.Packet.Packet, Packet.IsShortPacket}
use Rattle.npf_pieces.specs.declared.{arrived.{Arrived.Arrived, Ending.TheVariants.Complete}, piece.Seen.Seen}
use Rattle.npf_pieces.specs.{Datagram.{CompleteIsWhole, StandsAmong, WholeIfComplete}, DatagramAt.PutTogether, Overlap.IsTaken, Piece.SeenAs}
use Rattle.npf_pieces.{specs.{Sets.{Set, is_whole, set_at, sets_from}, DatagramAt.with_datagrams}, proofs.OpenSetLemmas.taken_of}
use Rattle.npf_reass_sets.specs.{declared.class.ClassSets.ClassSets, Among.{IsSetAmong, arrived_from}, Class.class_sets, Key.{is_frag_key, of_key}}
use Rattle.npf_reass_whole.specs.Run.{CanLayOut, DecidesRun, HasPlacesBelow, HoldsBad, IsClassAmong, IsDatagramAmong, IsSeenAs, LaysOut, PutsAll, all_sets, with_sets_held}
use Rattle.npf_reass_whole.{specs.Whole.Whole, proofs.{ShortLemmas.all_short, AmongLemmas.{all_zip_at, at_place}}}
use Rattle.npf_reass_whole.proofs.FateLemmas.{last_among, is_whole as whole_run}

some_packet : (packets : List Packet) (i : ℕ) → i < length packets → Packet
some_packet [] i h = absurd (omega (arith, h))
some_packet (p ∷ packets) i h = p

pub seen_as : (packets : List Packet) (seens : List Seen) → AllZip IsSeenAs packets seens → AllZip SeenAs packets seens
seen_as [] [] all = all
seen_as [] (s ∷ seens) all = absurd all
seen_as (p ∷ packets) [] all = absurd all
seen_as (p ∷ packets) (s ∷ seens) all = (all.0.sees, seen_as packets seens all.1)

all_sets_all : (P : Set → Type 0) (classes : List ClassSets) → All (λ class. All P (class_sets class)) classes → All P (all_sets classes)
all_sets_all P [] all = All-nil P
all_sets_all P (class ∷ classes) all =
    All-append P (class_sets class) (all_sets classes) (All-head (λ class. All P (class_sets class)) class classes all)
    (all_sets_all P classes (All-tail (λ class. All P (class_sets class)) class classes all))

-- the items of a list whose part was written, where the part is all
pub whole_items : {X : Type 0} (n : ℕ) (new old : List X) → length new ≡ n → length old ≡ n → take n (new ++ drop (length new) old) ≡ new
whole_items {X} n new old long e =
    ap (λ (rest : List X). take n (new ++ rest)) (drop_all (length new) old (omega (arith, long, e)))
    ∙ ap (take n) (append-nil new) ∙ take_all n new (omega (arith, long))

nonempty : (set : List Arrived) → is_whole set ≡ true → 1 ≤ length set
nonempty [] h = absurd (grind (arith, h))
nonempty (a ∷ set) h = omega arith

module _ (packets : List Packet) (short : All IsShortPacket packets) (classes : List ClassSets) (run : DecidesRun packets classes) where
  abbrev arrived : List Arrived
  arrived = arrived_from 0 packets run.seens

  here : (a : Arrived) → Contains arrived a → a.place < length packets
  here a c = omega (arith, (at_place 0 packets run.seens a c).here)

  is_seen : (a : Arrived) (d : Packet) → Contains arrived a → IsSeenAs (get_or packets a.place d) (Seen.Piece a.piece)
  is_seen a d c =
      let x = at_place 0 packets run.seens a c in
      let at : a.place - 0 ≡ a.place = omega arith in
      let one = all_zip_at IsSeenAs packets run.seens (a.place - 0) d Seen.NoFragment run.sees x.here in
      subst (λ (n : ℕ). IsSeenAs (get_or packets n d) (Seen.Piece a.piece)) at (subst (IsSeenAs (get_or packets (a.place - 0) d)) (x.seen Seen.NoFragment) one)

  stands : (a : Arrived) → Contains arrived a → StandsAmong packets a
  stands a c = record {
    here = here a c;
    is = λ d. let one = is_seen a d c in record { seen = one.sees; good = one.good; placed = one.placed };
  }

  taken : (a : Arrived) → Contains arrived a → IsTaken a
  taken a c =
      let d = some_packet packets a.place (here a c) in
      let one = is_seen a d c in
      taken_of a (length (get_or packets a.place d).bytes) (All-get_or IsShortPacket packets a.place d (here a c) short) one.good one.placed

  all_taken : All IsTaken arrived
  all_taken = All-weaker (Contains arrived) IsTaken taken arrived (All-contains_itself arrived)

  whole_set : CompleteIsWhole → (set : Set) → IsSetAmong arrived set → WholeIfComplete set
  whole_set law set h =
      All-contains WholeIfComplete (sets_from [] (of_key h.key arrived)) set
      (law (of_key h.key arrived) (All-filter (λ a. is_frag_key h.key a.piece.key) IsTaken arrived all_taken)) h.is

  can_lay_out_one : CompleteIsWhole → (class : ClassSets) → IsClassAmong arrived class → CanLayOut packets class
  can_lay_out_one law class h = record {
    places = h.places;
    stand = All-weaker (Contains arrived) (StandsAmong packets) stands class.arrived.items h.own;
    whole = All-weaker (IsSetAmong arrived) WholeIfComplete (whole_set law) (class_sets class) h.sets;
  }

  pub can_lay_out : CompleteIsWhole → All (CanLayOut packets) classes
  can_lay_out law = All-weaker (IsClassAmong arrived) (CanLayOut packets) (can_lay_out_one law) classes run.each

  has_places_one : (class : ClassSets) → IsClassAmong arrived class → HasPlacesBelow (length packets) class
  has_places_one class h = record {
    places = h.places;
    here = All-weaker (Contains arrived) (λ a. a.place < length packets) here class.arrived.items h.own;
  }

  pub has_places : All (HasPlacesBelow (length packets)) classes
  has_places = All-weaker (IsClassAmong arrived) (HasPlacesBelow (length packets)) has_places_one classes run.each

  own_pieces : (class : ClassSets) → IsClassAmong arrived class → All (λ set. All (Contains arrived) set.pieces) (class_sets class)
  own_pieces class h =
      All-map (λ set. All (Contains arrived) set.pieces) (set_at class.arrived.items) class.sets.items
      (λ k d lt. let s = get_or class.sets.items k d in
      All-take (Contains arrived) (s.behind - s.first) (drop s.first class.arrived.items) (All-drop (Contains arrived) s.first class.arrived.items h.own))

  own_sets : All (λ set. All (Contains arrived) set.pieces) (all_sets classes)
  own_sets = all_sets_all (λ set. All (Contains arrived) set.pieces) classes
      (All-weaker (IsClassAmong arrived) (λ class. All (λ set. All (Contains arrived) set.pieces) (class_sets class)) own_pieces classes run.each)

  sound_sets : All (IsSetAmong arrived) (all_sets classes)
  sound_sets = all_sets_all (IsSetAmong arrived) classes
      (All-weaker (IsClassAmong arrived) (λ class. All (IsSetAmong arrived) (class_sets class)) (λ class h. h.sets) classes run.each)

  module _ (law : CompleteIsWhole) (ds : List PutTogether) (lays : LaysOut packets (all_sets classes) ds) where
    some : (set : Set) → Contains (all_sets classes) set → set.ending ≡ Complete → 1 ≤ length set.pieces
    some set c complete = nonempty set.pieces (whole_set law set (All-contains (IsSetAmong arrived) (all_sets classes) set sound_sets c) complete).whole

    datagram_here : (x : PutTogether) → IsDatagramAmong packets (all_sets classes) x → x.place < length packets
    datagram_here x among =
        let last = last_among among.set.pieces (some among.set among.among among.complete) in
        let own = All-contains (Contains arrived) among.set.pieces last.0
        (All-contains (λ set. All (Contains arrived) set.pieces) (all_sets classes) among.set own_sets among.among) last.1.0 in
        omega (arith, here last.0 own, last.1.1, among.place)

    pub datagrams_here : All (λ d. d.place < length packets) ds
    datagrams_here = All-weaker (IsDatagramAmong packets (all_sets classes)) (λ (x : PutTogether). x.place < length packets) datagram_here ds lays.each

    pub put_is_whole : (bad : List Packet) → HoldsBad packets bad → Whole packets (with_datagrams ds (with_sets_held (all_sets classes) bad))
    put_is_whole bad holds =
        whole_run packets bad run.seens (all_sets classes) ds (seen_as packets run.seens run.sees) sound_sets
        (λ set c. All-contains (λ set. All (Contains arrived) set.pieces) (all_sets classes) set own_sets c) some run.all lays holds

    pub puts_whole : (new : List Packet) → PutsAll (all_sets classes) ds packets new → Whole packets new
    puts_whole new puts = subst (Whole packets) (sym puts.is) (put_is_whole puts.bad puts.holds)

    pub puts_short : (new : List Packet) → PutsAll (all_sets classes) ds packets new → All IsShortPacket new
    puts_short new puts =
        subst (All IsShortPacket) (sym puts.is)
        (all_short packets puts.bad run.seens (all_sets classes) ds (seen_as packets run.seens run.sees) short
        (λ set c. whole_set law set (All-contains (IsSetAmong arrived) (all_sets classes) set sound_sets c)) lays puts.holds)
