-- Packets that are held, step by step, and which were held in the end.
use Rattle.std.proofs.Common.{◌≡◌, ◌≢◌, ℕ, ◌+◌, ◌<◌, ◌∙◌, ◌⊎◌, ⊎_elim, inl, inr, refl, sym, ap, List, [], ◌∷◌, ◌++◌, length, drop, get_or, set, arith}
use Rattle.std.{specs.Prelude.{All, Contains, map, slice_range}, proofs.lemmas.List.drop_more}
use Rattle.std.proofs.lemmas.List.Elements.{Contains-append_cases, Contains-append_left, Contains-append_right}
use Rattle.npf_shelf.proofs.ListLemmas.{Contains-cons_cases, Contains-first, Contains-later}
use Rattle.npf_traffic.specs.declared.packet.{FragWhy.FragWhy, Packet.Packet}
use Rattle.npf_pieces.specs.{declared.arrived.{Arrived.Arrived, SetAt.SetAt}, DatagramAt.{PutTogether, becomes, with_datagrams, with_packet}}
use Rattle.npf_pieces.{specs.Sets.{Set, set_at}, proofs.DatagramsLemmas.with_packet-set}
use Rattle.npf_reass_sets.specs.{declared.class.ClassSets.ClassSets, Class.class_sets}
use Rattle.npf_reass_whole.specs.{Fate.held_as, Run.{all_sets, why_held, with_held, with_sets_held}}
use Rattle.npf_reass_whole.proofs.WriteLemmas.{IsUnwritten, IsWritten, length-with_packet, written, written_or_not}

-- what is left to be held, one step on
pub held_step : (why : FragWhy) (pieces : List Arrived) (i : ℕ) (d : Arrived) (packets : List Packet) (p : Packet) (n : ℕ) → i < length pieces
    → All (λ a. a.place < n) pieces → length packets ≡ n
    → with_held why (drop i pieces) packets
    ≡ with_held why (drop (i + 1) pieces) (set packets (get_or pieces i d).place (held_as why (get_or packets (get_or pieces i d).place p)))
held_step why pieces i d packets p n h all count =
    let here : (get_or pieces i d).place < length packets = omega (arith, all i d h, count) in
    ap (λ (list : List Arrived). with_held why list packets) (drop_more pieces i d h)
    ∙ ap (with_held why (drop (i + 1) pieces)) (with_packet-set (held_as why) packets (get_or pieces i d).place p here)

pub sets_step : (arrived : List Arrived) (sets : List SetAt) (i : ℕ) (d x : SetAt) (packets : List Packet) → i < length sets → x ≡ get_or sets i d
    → with_sets_held (map (set_at arrived) (drop i sets)) packets
    ≡ with_sets_held (map (set_at arrived) (drop (i + 1) sets)) (with_held (why_held x.ending) (slice_range arrived x.first x.behind) packets)
sets_step arrived sets i d x packets h is =
    ap (λ (list : List SetAt). with_sets_held (map (set_at arrived) list) packets) (drop_more sets i d h)
    ∙ ap (λ (y : SetAt). with_sets_held (map (set_at arrived) (drop (i + 1) sets)) (with_held (why_held y.ending) (slice_range arrived y.first y.behind) packets)) (sym is)

pub sets_held_append : (xs ys : List Set) (packets : List Packet) → with_sets_held (xs ++ ys) packets ≡ with_sets_held ys (with_sets_held xs packets)
sets_held_append [] ys packets = refl
sets_held_append (set ∷ xs) ys packets = sets_held_append xs ys (with_held (why_held set.ending) set.pieces packets)

pub classes_step : (classes : List ClassSets) (i : ℕ) (d x : ClassSets) (packets : List Packet) → i < length classes → x ≡ get_or classes i d
    → with_sets_held (all_sets (drop i classes)) packets
    ≡ with_sets_held (all_sets (drop (i + 1) classes)) (with_sets_held (class_sets x) packets)
classes_step classes i d x packets h is =
    ap (λ (list : List ClassSets). with_sets_held (all_sets list) packets) (drop_more classes i d h)
    ∙ sets_held_append (class_sets (get_or classes i d)) (all_sets (drop (i + 1) classes)) packets
    ∙ ap (λ (y : ClassSets). with_sets_held (all_sets (drop (i + 1) classes)) (with_sets_held (class_sets y) packets)) (sym is)

pub length-held : (why : FragWhy) (pieces : List Arrived) (packets : List Packet) → length (with_held why pieces packets) ≡ length packets
length-held why [] packets = refl
length-held why (a ∷ pieces) packets =
    length-held why pieces (with_packet (held_as why) a.place packets) ∙ length-with_packet (held_as why) a.place packets

pub length-sets_held : (sets : List Set) (packets : List Packet) → length (with_sets_held sets packets) ≡ length packets
length-sets_held [] packets = refl
length-sets_held (set ∷ sets) packets =
    length-sets_held sets (with_held (why_held set.ending) set.pieces packets) ∙ length-held (why_held set.ending) set.pieces packets

pub length-datagrams : (datagrams : List PutTogether) (packets : List Packet) → length (with_datagrams datagrams packets) ≡ length packets
length-datagrams [] packets = refl
length-datagrams (d ∷ datagrams) packets =
    length-datagrams datagrams (with_packet (becomes d.bytes) d.place packets) ∙ length-with_packet (becomes d.bytes) d.place packets

-- a piece that is held by its set
record Mark : Type 0 where
  pub place : ℕ
  pub why : FragWhy

abbrev mark_place : Mark → ℕ
mark_place m = m.place

abbrev mark : Mark → Packet → Packet
mark m = held_as m.why

abbrev marks_of : FragWhy → List Arrived → List Mark
marks_of why [] = []
marks_of why (a ∷ pieces) = record { place = a.place; why = why } ∷ marks_of why pieces

abbrev all_marks : List Set → List Mark
all_marks [] = []
all_marks (set ∷ sets) = marks_of (why_held set.ending) set.pieces ++ all_marks sets

abbrev write : List Mark → List Packet → List Packet
write = written mark_place mark (λ v w p. refl)

write_append : (xs ys : List Mark) (packets : List Packet) → write (xs ++ ys) packets ≡ write ys (write xs packets)
write_append [] ys packets = refl
write_append (m ∷ xs) ys packets = write_append xs ys (with_packet (mark m) m.place packets)

held_written : (why : FragWhy) (pieces : List Arrived) (packets : List Packet) → with_held why pieces packets ≡ write (marks_of why pieces) packets
held_written why [] packets = refl
held_written why (a ∷ pieces) packets = held_written why pieces (with_packet (held_as why) a.place packets)

sets_written : (sets : List Set) (packets : List Packet) → with_sets_held sets packets ≡ write (all_marks sets) packets
sets_written [] packets = refl
sets_written (set ∷ sets) packets =
    ap (with_sets_held sets) (held_written (why_held set.ending) set.pieces packets)
    ∙ sets_written sets (write (marks_of (why_held set.ending) set.pieces) packets)
    ∙ sym (write_append (marks_of (why_held set.ending) set.pieces) (all_marks sets) packets)

-- a piece of one of the sets has the mark
record IsMarkOf (why : FragWhy) (pieces : List Arrived) (m : Mark) : Type 0 where
  pub a : Arrived
  pub among : Contains pieces a
  pub at : a.place ≡ m.place
  pub by : m.why ≡ why

mark_from : (why : FragWhy) (pieces : List Arrived) (m : Mark) → Contains (marks_of why pieces) m → IsMarkOf why pieces m
mark_from why [] m c = absurd (omega (arith, c.1))
mark_from why (a ∷ pieces) m c = ⊎_elim
    (λ e. record { a = a; among = Contains-first a pieces; at = ap mark_place e; by = ap (λ (x : Mark). x.why) (sym e) })
    (λ (c : Contains (marks_of why pieces) m).
    let x = mark_from why pieces m c in
    record { a = x.a; among = Contains-later a x.a pieces x.among; at = x.at; by = x.by })
    (Contains-cons_cases (record { place = a.place; why = why }) m (marks_of why pieces) c)

mark_to : (why : FragWhy) (pieces : List Arrived) (a : Arrived) → Contains pieces a → Contains (marks_of why pieces) (record { place = a.place; why = why })
mark_to why [] a c = absurd (omega (arith, c.1))
mark_to why (b ∷ pieces) a c = ⊎_elim
    (λ (e : b ≡ a). rw (← e) (Contains-first (record { place = b.place; why = why }) (marks_of why pieces)))
    (λ (c : Contains pieces a). Contains-later (record { place = b.place; why = why }) (record { place = a.place; why = why }) (marks_of why pieces) (mark_to why pieces a c))
    (Contains-cons_cases b a pieces c)

-- the packet of a place is held with the set that has its piece
pub record IsHeldBy (sets : List Set) (place : ℕ) (old new : Packet) : Type 0 where
  pub set : Set
  pub among : Contains sets set
  pub a : Arrived
  pub has : Contains set.pieces a
  pub at : a.place ≡ place
  pub is : new ≡ held_as (why_held set.ending) old

-- none of the sets has the packet of a place
pub record IsHeldByNone (sets : List Set) (place : ℕ) (old new : Packet) : Type 0 where
  pub same : new ≡ old
  pub none : (set : Set) (a : Arrived) → Contains sets set → Contains set.pieces a → a.place ≢ place

record IsSetMark (sets : List Set) (m : Mark) : Type 0 where
  pub set : Set
  pub among : Contains sets set
  pub is : IsMarkOf (why_held set.ending) set.pieces m

set_mark_from : (sets : List Set) (m : Mark) → Contains (all_marks sets) m → IsSetMark sets m
set_mark_from [] m c = absurd (omega (arith, c.1))
set_mark_from (set ∷ sets) m c = ⊎_elim
    (λ (c : Contains (marks_of (why_held set.ending) set.pieces) m).
    record { set = set; among = Contains-first set sets; is = mark_from (why_held set.ending) set.pieces m c })
    (λ (c : Contains (all_marks sets) m).
    let x = set_mark_from sets m c in
    record { set = x.set; among = Contains-later set x.set sets x.among; is = x.is })
    (Contains-append_cases (marks_of (why_held set.ending) set.pieces) (all_marks sets) m c)

set_mark_to : (sets : List Set) (set : Set) (a : Arrived) → Contains sets set → Contains set.pieces a
    → Contains (all_marks sets) (record { place = a.place; why = why_held set.ending })
set_mark_to [] set a c h = absurd (omega (arith, c.1))
set_mark_to (first ∷ sets) set a c h =
    let m : Mark = record { place = a.place; why = why_held set.ending } in
    ⊎_elim
    (λ (e : first ≡ set). Contains-append_left (marks_of (why_held first.ending) first.pieces) (all_marks sets) m
    (rw e (mark_to (why_held set.ending) set.pieces a h)))
    (λ (c : Contains sets set). Contains-append_right (marks_of (why_held first.ending) first.pieces) (all_marks sets) m (set_mark_to sets set a c h))
    (Contains-cons_cases first set sets c)

pub held_or_not : (sets : List Set) (packets : List Packet) (place : ℕ) (d : Packet) → place < length packets
    → IsHeldBy sets place (get_or packets place d) (get_or (with_sets_held sets packets) place d)
    ⊎ IsHeldByNone sets place (get_or packets place d) (get_or (with_sets_held sets packets) place d)
held_or_not sets packets place d h =
    let new : get_or (with_sets_held sets packets) place d ≡ get_or (write (all_marks sets) packets) place d =
    ap (λ (ps : List Packet). get_or ps place d) (sets_written sets packets) in
    ⊎_elim
    (λ (x : IsWritten mark_place mark (λ v w p. refl) (all_marks sets) place (get_or packets place d) (get_or (write (all_marks sets) packets) place d)).
    let m = set_mark_from sets x.one x.among in
    inl (record { set = m.set; among = m.among; a = m.is.a; has = m.is.among; at = m.is.at ∙ x.at; is = new ∙ x.is ∙ ap (λ (why : FragWhy). held_as why (get_or packets place d)) m.is.by }))
    (λ (x : IsUnwritten mark_place mark (λ v w p. refl) (all_marks sets) place (get_or packets place d) (get_or (write (all_marks sets) packets) place d)).
    inr (record {
      same = new ∙ x.same;
      none = λ set a c h. x.none (record { place = a.place; why = why_held set.ending }) (set_mark_to sets set a c h);
    }))
    (written_or_not mark_place mark (λ v w p. refl) (all_marks sets) packets place d h)

-- what the datagrams wrote
abbrev datagram_place : PutTogether → ℕ
datagram_place datagram = datagram.place

abbrev put : PutTogether → Packet → Packet
put datagram = becomes datagram.bytes

datagrams_written : (ds : List PutTogether) (packets : List Packet) → with_datagrams ds packets ≡ written datagram_place put (λ v w p. refl) ds packets
datagrams_written [] packets = refl
datagrams_written (x ∷ ds) packets = datagrams_written ds (with_packet (becomes x.bytes) x.place packets)

pub record IsPutBy (ds : List PutTogether) (place : ℕ) (old new : Packet) : Type 0 where
  pub datagram : PutTogether
  pub among : Contains ds datagram
  pub at : datagram.place ≡ place
  pub is : new ≡ becomes datagram.bytes old

pub record IsPutByNone (ds : List PutTogether) (place : ℕ) (old new : Packet) : Type 0 where
  pub same : new ≡ old
  pub none : (x : PutTogether) → Contains ds x → x.place ≢ place

pub put_or_not : (ds : List PutTogether) (packets : List Packet) (place : ℕ) (d : Packet) → place < length packets
    → IsPutBy ds place (get_or packets place d) (get_or (with_datagrams ds packets) place d)
    ⊎ IsPutByNone ds place (get_or packets place d) (get_or (with_datagrams ds packets) place d)
put_or_not ds packets place d h =
    let new = ap (λ (ps : List Packet). get_or ps place d) (datagrams_written ds packets) in
    let by : List Packet = written datagram_place put (λ v w p. refl) ds packets in
    ⊎_elim
    (λ (x : IsWritten datagram_place put (λ v w p. refl) ds place (get_or packets place d) (get_or by place d)).
    inl (record { datagram = x.one; among = x.among; at = x.at; is = new ∙ x.is }))
    (λ (x : IsUnwritten datagram_place put (λ v w p. refl) ds place (get_or packets place d) (get_or by place d)).
    inr (record { same = new ∙ x.same; none = x.none }))
    (written_or_not datagram_place put (λ v w p. refl) ds packets place d h)
