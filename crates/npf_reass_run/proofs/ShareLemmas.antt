-- The classes that were decided tell the sets of all pieces.
use Rattle.std.proofs.Common.{◌≡◌, ℕ, ◌-◌, ◌<◌, ◌≤◌, ◌==◌, ◌∙◌, ◌%◌, Bool, cond, zero, true, false, suc, refl, sym, ap, subst, nat_eq, List, [], ◌∷◌, length, get_or, arith}
use Rattle.std.{specs.{Prelude.{All, Contains, bit_xor, filter}, Cmp.Lexicographic.pointwise}, proofs.lemmas.Bool.{and_parts, eqb-true, eq-eqb}}
use Rattle.std.proofs.lemmas.List.Elements.{All-cons, All-contains, All-filter, All-get_or, All-head, All-nil, filter_passes, All-weaker, All-contains_itself, Contains-get_or}
use Rattle.std.proofs.lemmas.{List.{Kept.{AllPairs-cons, AllPairs-filter}, Sorted.All-permutation}, Nat.mod_below}
use Rattle.npf_types.specs.declared.address.Addr.{Addr, TheVariants.{V4, V6}}
use Rattle.npf_traffic.specs.{declared.packet.Packet.Packet, Packet.IsShortPacket}
use Rattle.npf_pieces.specs.{declared.{arrived.Arrived.Arrived, piece.{FragKey.FragKey, Seen.Seen}}, Overlap.IsTaken, Sets.{Set, sets_from}}
use Rattle.npf_reass_sets.specs.{declared.class.ClassSets.ClassSets, Among.{IsSetAmong, arrived_from}, Class.{DecidesClass, IsInSet, class_sets}}
use Rattle.npf_reass_sets.{specs.{Order.AreByPlace, Key.{key_address, is_frag_key, key_numbers, of_key, key_version}}, proofs.CoverLemmas.{in_left, in_right}}
use Rattle.npf_reass_whole.{specs.Run.{DecidesRun, IsClassAmong, IsSeenAs, all_sets}, proofs.AmongLemmas.{all_zip_at, at_place}}
use Rattle.npf_pieces.proofs.OpenSetLemmas.{taken_of}
use Rattle.npf_reass.specs.Class.{class_of, folded_halves}
use Rattle.npf_reass_run.{specs.Gathering.{GathersPieces, class_pieces}, proofs.ListLemmas.some_of}
use Rattle.npf_reass_sets.proofs.FilterLemmas.{contains_filter}

-- pieces of one key are of one class
pub same_numbers : (xs ys : List ℕ) → pointwise nat_eq xs ys ≡ true → xs ≡ ys
same_numbers [] [] h = refl
same_numbers [] (y ∷ ys) h = absurd (grind (arith, h))
same_numbers (x ∷ xs) [] h = absurd (grind (arith, h))
same_numbers (x ∷ xs) (y ∷ ys) h =
    let parts = and_parts (nat_eq x y) (pointwise nat_eq xs ys) h in
    ap (λ (n : ℕ). n ∷ xs) (eqb-true x y parts.0) ∙ ap (λ (list : List ℕ). y ∷ list) (same_numbers xs ys parts.1)

same_folded : (a b : Addr) → key_version a ≡ key_version b → key_address a ≡ key_address b → folded_halves a ≡ folded_halves b
same_folded (V4 x) (V4 y) version address = address
same_folded (V4 x) (V6 y) version address = absurd (omega (arith, version))
same_folded (V6 x) (V4 y) version address = absurd (omega (arith, version))
same_folded (V6 x) (V6 y) version address = ap (λ (n : ℕ). folded_halves (V6 n)) address

abbrev number_at : ℕ → List ℕ → ℕ
number_at k list = get_or list k 0

pub same_class : (classes : ℕ) (key other : FragKey) → is_frag_key key other ≡ true → class_of classes key ≡ class_of classes other
same_class classes key other h =
    let all = same_numbers (key_numbers key) (key_numbers other) h in
    let src = same_folded key.src other.src (ap (number_at 2) all) (ap (number_at 3) all) in
    let dst = same_folded key.dst other.dst (ap (number_at 4) all) (ap (number_at 5) all) in
    let proto : key.proto ≡ other.proto = ap (number_at 6) all in
    let id : key.id ≡ other.id = ap (number_at 7) all in
    ap (λ (n : ℕ). bit_xor (bit_xor (bit_xor n (folded_halves key.dst)) key.proto) key.id % classes) src
    ∙ ap (λ (n : ℕ). bit_xor (bit_xor (bit_xor (folded_halves other.src) n) key.proto) key.id % classes) dst
    ∙ ap (λ (n : ℕ). bit_xor (bit_xor (bit_xor (folded_halves other.src) (folded_halves other.dst)) n) key.id % classes) proto
    ∙ ap (λ (n : ℕ). bit_xor (bit_xor (bit_xor (folded_halves other.src) (folded_halves other.dst)) other.proto) n % classes) id

-- a test that implies another keeps of the other's what it keeps of all
module _ (p q : Arrived → Bool) (implies : (x : Arrived) → p x ≡ true → q x ≡ true) where
  filter_step : (x : Arrived) (xs : List Arrived) → filter p (filter q xs) ≡ filter p xs → (b c : Bool) → q x ≡ b → p x ≡ c
      → filter p (cond b (x ∷ filter q xs) (filter q xs)) ≡ cond c (x ∷ filter p xs) (filter p xs)
  filter_step x xs more true c e k =
      ap (λ (b : Bool). cond b (x ∷ filter p (filter q xs)) (filter p (filter q xs))) k ∙ ap (λ (list : List Arrived). cond c (x ∷ list) list) more
  filter_step x xs more false true e k = absurd (grind (arith, sym e ∙ implies x k))
  filter_step x xs more false false e k = more

  filter_within : (xs : List Arrived) → filter p (filter q xs) ≡ filter p xs
  filter_within [] = refl
  filter_within (x ∷ xs) = filter_step x xs (filter_within xs) (q x) (p x) refl refl

module _ (classes class : ℕ) (arrived : List Arrived) where
  abbrev mine : List Arrived
  mine = class_pieces classes class arrived

  abbrev is_mine : Arrived → Bool
  is_mine a = class_of classes a.piece.key == class

  abbrev is_of : FragKey → Arrived → Bool
  is_of key a = is_frag_key key a.piece.key

  pub set_among : (set : Set) → IsSetAmong mine set → IsSetAmong arrived set
  set_among set h = by (of_key h.key mine) refl h.is
    where
      by : (list : List Arrived) → of_key h.key mine ≡ list → Contains (sets_from [] list) set → IsSetAmong arrived set
      by [] e c = absurd (omega (arith, c.1))
      by (x ∷ xs) e c =
          let passes = All-head (λ (a : Arrived). is_of h.key a ≡ true) x xs (subst (All (λ (a : Arrived). is_of h.key a ≡ true)) e (filter_passes (is_of h.key) mine)) in
          let own = All-head (λ (a : Arrived). is_mine a ≡ true) x xs
          (subst (All (λ (a : Arrived). is_mine a ≡ true)) e (All-filter (is_of h.key) (λ (a : Arrived). is_mine a ≡ true) mine (filter_passes is_mine arrived))) in
          let class_is : class_of classes h.key ≡ class = same_class classes h.key x.piece.key passes ∙ eqb-true _ _ own in
          let implies : (y : Arrived) → is_of h.key y ≡ true → is_mine y ≡ true = λ y k. eq-eqb _ _ (sym (same_class classes h.key y.piece.key k) ∙ class_is) in
          record { key = h.key; is = subst (λ (list : List Arrived). Contains (sets_from [] list) set) (sym e ∙ filter_within (is_of h.key) is_mine implies arrived) c }

  pub class_among : (one : ClassSets) → DecidesClass mine one → IsClassAmong arrived one
  class_among one h = record {
    places = h.places;
    own = All-permutation (Contains arrived) mine one.arrived.items h.same (All-filter is_mine (Contains arrived) arrived (All-contains_itself arrived));
    sets = All-weaker (IsSetAmong mine) (IsSetAmong arrived) set_among (class_sets one) h.sets;
  }

-- pieces come in the order of their packets
from_place : (low first : ℕ) (packets : List Packet) (seens : List Seen) → low < first → All (λ a. low < a.place) (arrived_from first packets seens)
from_place low first [] seens h = All-nil (λ (a : Arrived). low < a.place)
from_place low first (p ∷ packets) [] h = All-nil (λ (a : Arrived). low < a.place)
from_place low first (p ∷ packets) (Seen.NoFragment ∷ seens) h = from_place low (suc first) packets seens (omega (arith, h))
from_place low first (p ∷ packets) (Seen.Bad ∷ seens) h = from_place low (suc first) packets seens (omega (arith, h))
from_place low first (p ∷ packets) (Seen.Piece piece ∷ seens) h =
    All-cons (λ (a : Arrived). low < a.place) (record { place = first; time = p.time; piece = piece }) (arrived_from (suc first) packets seens) h
    (from_place low (suc first) packets seens (omega (arith, h)))

by_place : (first : ℕ) (packets : List Packet) (seens : List Seen) → AreByPlace (arrived_from first packets seens)
by_place first [] seens = λ i j d less h. absurd (omega (arith, h))
by_place first (p ∷ packets) [] = λ i j d less h. absurd (omega (arith, h))
by_place first (p ∷ packets) (Seen.NoFragment ∷ seens) = by_place (suc first) packets seens
by_place first (p ∷ packets) (Seen.Bad ∷ seens) = by_place (suc first) packets seens
by_place first (p ∷ packets) (Seen.Piece piece ∷ seens) =
    AllPairs-cons (λ (a b : Arrived). a.place < b.place) (record { place = first; time = p.time; piece = piece }) (arrived_from (suc first) packets seens)
    (from_place first (suc first) packets seens (omega arith)) (by_place (suc first) packets seens)

in_all : (classes : List ClassSets) (i : ℕ) (d : ClassSets) (a : Arrived) → i < length classes → IsInSet (class_sets (get_or classes i d)) a → IsInSet (all_sets classes) a
in_all [] i d a h x = absurd (omega (arith, h))
in_all (class ∷ classes) zero d a h x = in_left (class_sets class) (all_sets classes) a x
in_all (class ∷ classes) (suc i) d a h x = in_right (class_sets class) (all_sets classes) a (in_all classes i d a (omega (arith, h)) x)

module _ (packets : List Packet) (classes : List ClassSets) (gathers : GathersPieces packets classes) where
  abbrev arrived : List Arrived
  arrived = arrived_from 0 packets gathers.seens

  module _ (short : All IsShortPacket packets) where
    is_taken : (a : Arrived) → Contains arrived a → IsTaken a
    is_taken a c =
        let x = at_place 0 packets gathers.seens a c in
        let d = some_of packets (a.place - 0) x.here in
        let one = all_zip_at IsSeenAs packets gathers.seens (a.place - 0) d Seen.NoFragment gathers.sees x.here in
        let piece = subst (IsSeenAs (get_or packets (a.place - 0) d)) (x.seen Seen.NoFragment) one in
        taken_of a (length (get_or packets (a.place - 0) d).bytes) (All-get_or IsShortPacket packets (a.place - 0) d x.here short) piece.good piece.placed

    pub classes_taken : All (λ class. All IsTaken class.arrived.items) classes
    classes_taken k d h =
        subst (All IsTaken) (sym (gathers.each k d h))
        (All-filter (λ a. class_of (length classes) a.piece.key == k) IsTaken arrived
        (All-weaker (Contains arrived) IsTaken is_taken arrived (All-contains_itself arrived)))

  -- those of a class come in the order of their packets
  pub classes_by_place : All (λ class. AreByPlace class.arrived.items) classes
  classes_by_place k d h =
      subst AreByPlace (sym (gathers.each k d h))
      (AllPairs-filter (λ a b. a.place < b.place) (λ a. class_of (length classes) a.piece.key == k) arrived (by_place 0 packets gathers.seens))

  module _ (some : 1 ≤ length classes) (decided : List ClassSets) (count : length decided ≡ length classes)
      (each : (i : ℕ) (d : ClassSets) → i < length classes → DecidesClass (get_or classes i d).arrived.items (get_or decided i d)) where
    decides : (class : ℕ) (d : ClassSets) → class < length classes → DecidesClass (class_pieces (length classes) class arrived) (get_or decided class d)
    decides class d h = subst (λ (list : List Arrived). DecidesClass list (get_or decided class d)) (gathers.each class d h) (each class d h)

    in_run : (a : Arrived) → Contains arrived a → IsInSet (all_sets decided) a
    in_run a c =
        let class = class_of (length classes) a.piece.key in
        let below : class < length classes = mod_below _ (length classes) some in
        let d = some_of decided class (omega (arith, below, count)) in
        let own = contains_filter (λ x. class_of (length classes) x.piece.key == class) arrived a c (eq-eqb class class refl) in
        in_all decided class d a (omega (arith, below, count))
        (All-contains (IsInSet (class_sets (get_or decided class d))) (class_pieces (length classes) class arrived) a (decides class d below).each own)

    pub decides_run : DecidesRun packets decided
    decides_run = record {
      seens = gathers.seens;
      sees = gathers.sees;
      each = λ k d h.
          let below : k < length classes = omega (arith, h, count) in
          class_among (length classes) k arrived (get_or decided k d) (decides k d below);
      all = λ k d h. in_run (get_or arrived k d) (Contains-get_or arrived k d h);
    }
