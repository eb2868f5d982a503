-- Datagrams of sets, put together set by set and class by class.
use Rattle.std.proofs.Common.{◌≡◌, ◌≢◌, ◌∙◌, refl, sym, ap, subst, ℕ, ◌+◌, ◌<◌, List, [], ◌∷◌, ◌++◌, length, take, get_or, append-nil, append_assoc, zero, suc, arith}
use Rattle.std.{specs.Prelude.{All, map}, proofs.lemmas.List.{map-append, take_more}}
use Rattle.std.proofs.lemmas.List.Elements.{All-append, All-cons, All-head, All-nil, All-tail, All-weaker, Contains-append_left, Contains-append_right}
use Rattle.npf_shelf.proofs.ListLemmas.{Contains-first}
use Rattle.npf_traffic.specs.declared.packet.Packet.{Packet}
use Rattle.npf_pieces.specs.{declared.arrived.Ending.TheVariants.Complete, Datagram.IsDatagram, DatagramAt.PutTogether, Datagrams.{AddsDatagram, last_place}}
use Rattle.npf_pieces.specs.{declared.arrived.{Arrived.Arrived, SetAt.SetAt}, Sets.{Set, set_at}}
use Rattle.npf_reass_sets.specs.{declared.class.ClassSets.ClassSets, Class.class_sets}
use Rattle.npf_reass_whole.specs.Run.{AddsDatagrams, HasDatagram, HasDatagramIfComplete, IsDatagramAmong, LaysOut, all_sets}

pub all_sets_append : (xs ys : List ClassSets) → all_sets (xs ++ ys) ≡ all_sets xs ++ all_sets ys
all_sets_append [] ys = refl
all_sets_append (class ∷ xs) ys =
    ap (λ (list : List Set). class_sets class ++ list) (all_sets_append xs ys) ∙ sym (append_assoc (class_sets class) (all_sets xs) (all_sets ys))

pub all_sets_more : (classes : List ClassSets) (i : ℕ) (d : ClassSets) → i < length classes
    → all_sets (take (i + 1) classes) ≡ all_sets (take i classes) ++ class_sets (get_or classes i d)
all_sets_more classes i d h =
    ap all_sets (take_more classes i d h) ∙ all_sets_append (take i classes) (get_or classes i d ∷ [])
    ∙ ap (λ (list : List Set). all_sets (take i classes) ++ list) (append-nil (class_sets (get_or classes i d)))

-- what holds of all sets holds of each
pub set_at_place : (P : Set → Type 0) (arrived : List Arrived) (sets : List SetAt) (i : ℕ) (d : SetAt) → i < length sets → All P (map (set_at arrived) sets)
    → P (set_at arrived (get_or sets i d))
set_at_place P arrived [] i d h all = absurd (omega (arith, h))
set_at_place P arrived (set ∷ sets) zero d h all = All-head P (set_at arrived set) (map (set_at arrived) sets) all
set_at_place P arrived (set ∷ sets) (suc i) d h all =
    set_at_place P arrived sets i d (omega (arith, h)) (All-tail P (set_at arrived set) (map (set_at arrived) sets) all)

module _ (packets : List Packet) where
  pub lays_none : LaysOut packets [] []
  lays_none = record { each = All-nil (IsDatagramAmong packets []); all = All-nil (HasDatagramIfComplete []) }

  pub lays_skipped : (set : Set) → set.ending ≢ Complete → LaysOut packets (set ∷ []) []
  lays_skipped set other = record {
    each = All-nil (IsDatagramAmong packets (set ∷ []));
    all = All-cons (HasDatagramIfComplete []) set [] (λ e. absurd (other e)) (All-nil (HasDatagramIfComplete []));
  }

  pub lays_one : (set : Set) (bytes : List ℕ) → set.ending ≡ Complete → IsDatagram packets set.pieces bytes
      → LaysOut packets (set ∷ []) (record { place = last_place set.pieces; bytes = bytes } ∷ [])
  lays_one set bytes complete is =
      let x : PutTogether = record { place = last_place set.pieces; bytes = bytes } in
      let among : IsDatagramAmong packets (set ∷ []) x = record { set = set; among = Contains-first set []; complete = complete; place = refl; is = is } in
      let has : HasDatagram (x ∷ []) set = record { datagram = x; among = Contains-first x []; place = refl } in
      record {
        each = All-cons (IsDatagramAmong packets (set ∷ [])) x [] among (All-nil (IsDatagramAmong packets (set ∷ [])));
        all = All-cons (HasDatagramIfComplete (x ∷ [])) set [] (λ e. has) (All-nil (HasDatagramIfComplete (x ∷ [])));
      }

  pub adds_one : (set : Set) (old new : List PutTogether) → set.ending ≡ Complete → AddsDatagram packets set.pieces old new
      → AddsDatagrams packets (set ∷ []) old new
  adds_one set old new complete adds = record {
    more = record { place = last_place set.pieces; bytes = adds.bytes } ∷ [];
    is = adds.adds;
    lays = lays_one set adds.bytes complete adds.is;
  }

  module _ (xs ys : List Set) (ds es : List PutTogether) where
    among_left : (x : PutTogether) → IsDatagramAmong packets xs x → IsDatagramAmong packets (xs ++ ys) x
    among_left x h = record { set = h.set; among = Contains-append_left xs ys h.set h.among; complete = h.complete; place = h.place; is = h.is }

    among_right : (x : PutTogether) → IsDatagramAmong packets ys x → IsDatagramAmong packets (xs ++ ys) x
    among_right x h = record { set = h.set; among = Contains-append_right xs ys h.set h.among; complete = h.complete; place = h.place; is = h.is }

    has_left : (set : Set) → HasDatagramIfComplete ds set → HasDatagramIfComplete (ds ++ es) set
    has_left set h e = let x = h e in record { datagram = x.datagram; among = Contains-append_left ds es x.datagram x.among; place = x.place }

    has_right : (set : Set) → HasDatagramIfComplete es set → HasDatagramIfComplete (ds ++ es) set
    has_right set h e = let x = h e in record { datagram = x.datagram; among = Contains-append_right ds es x.datagram x.among; place = x.place }

    pub lays_append : LaysOut packets xs ds → LaysOut packets ys es → LaysOut packets (xs ++ ys) (ds ++ es)
    lays_append h k = record {
      each = All-append (IsDatagramAmong packets (xs ++ ys)) ds es
          (All-weaker (IsDatagramAmong packets xs) (IsDatagramAmong packets (xs ++ ys)) among_left ds h.each)
          (All-weaker (IsDatagramAmong packets ys) (IsDatagramAmong packets (xs ++ ys)) among_right es k.each);
      all = All-append (HasDatagramIfComplete (ds ++ es)) xs ys
          (All-weaker (HasDatagramIfComplete ds) (HasDatagramIfComplete (ds ++ es)) has_left xs h.all)
          (All-weaker (HasDatagramIfComplete es) (HasDatagramIfComplete (ds ++ es)) has_right ys k.all);
    }

  pub adds_none : (old : List PutTogether) → AddsDatagrams packets [] old old
  adds_none old = record { more = []; is = sym (append-nil old); lays = lays_none }

  pub adds_more : (xs ys : List Set) (old mid new : List PutTogether) → AddsDatagrams packets xs old mid → AddsDatagrams packets ys mid new
      → AddsDatagrams packets (xs ++ ys) old new
  adds_more xs ys old mid new h k = record {
    more = h.more ++ k.more;
    is = k.is ∙ ap (λ (list : List PutTogether). list ++ k.more) h.is ∙ append_assoc old h.more k.more;
    lays = lays_append xs ys h.more k.more h.lays k.lays;
  }

  pub adds_set : (arrived : List Arrived) (sets : List SetAt) (i : ℕ) (d x : SetAt) (old mid new : List PutTogether) → i < length sets → x ≡ get_or sets i d
      → AddsDatagrams packets (map (set_at arrived) (take i sets)) old mid → AddsDatagrams packets (set_at arrived x ∷ []) mid new
      → AddsDatagrams packets (map (set_at arrived) (take (i + 1) sets)) old new
  adds_set arrived sets i d x old mid new h item so_far more =
      let front = map (set_at arrived) (take i sets) in
      let one = set_at arrived x ∷ [] in
      let is : map (set_at arrived) (take (i + 1) sets) ≡ front ++ one =
      ap (map (set_at arrived)) (take_more sets i d h) ∙ map-append (set_at arrived) (take i sets) (get_or sets i d ∷ [])
      ∙ ap (λ (y : SetAt). front ++ set_at arrived y ∷ []) (sym item) in
      subst (λ (list : List Set). AddsDatagrams packets list old new) (sym is) (adds_more front one old mid new so_far more)

  pub lays_class : (classes : List ClassSets) (i : ℕ) (d x : ClassSets) (old new : List PutTogether) → i < length classes → x ≡ get_or classes i d
      → LaysOut packets (all_sets (take i classes)) old → AddsDatagrams packets (class_sets x) old new
      → LaysOut packets (all_sets (take (i + 1) classes)) new
  lays_class classes i d x old new h item so_far more =
      let front = all_sets (take i classes) in
      let one = class_sets x in
      let is = all_sets_more classes i d h ∙ ap (λ (y : ClassSets). front ++ class_sets y) (sym item) in
      subst (λ (list : List Set). LaysOut packets list new) (sym is)
      (subst (LaysOut packets (front ++ one)) (sym more.is) (lays_append front one old more.more so_far more.lays))
