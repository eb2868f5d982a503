-- What became of each packet, from what was held and what was put in its place.
use Rattle.std.proofs.Common.{◌≡◌, ◌≢◌, ℕ, ◌+◌, ◌-◌, ◌<◌, ◌≤◌, ◌∙◌, Bool, true, false, ⊎_elim, zero, suc, refl, sym, ap, subst, List, [], ◌∷◌, length, get_or, arith}
use Rattle.std.{specs.{Prelude.{All, Contains, Some, slice_get}, List.AllZip}, proofs.lemmas.List.Elements.All-contains}
use Rattle.std.proofs.lemmas.Option.{get_or_from_slice_get, slice_get_within}
use Rattle.npf_traffic.specs.declared.packet.Packet.{Packet}
use Rattle.npf_pieces.specs.declared.{arrived.{Arrived.Arrived, Ending.{Ending, TheVariants.{Unfinished, Refused, Complete}}}, piece.{Piece.Piece, Seen.Seen}}
use Rattle.npf_pieces.specs.{DatagramAt.{PutTogether, becomes, with_datagrams}, Datagrams.last_place, Piece.SeenAs, Sets.Set}
use Rattle.npf_reass_sets.specs.{Among.{IsSetAmong, arrived_from}, Class.IsInSet}
use Rattle.npf_reass_whole.specs.Fate.{FollowsEnding, FollowsSet, HasFate, held_as}
use Rattle.npf_reass_whole.specs.{Run.{HasDatagramIfComplete, HeldIfBad, HoldsBad, IsDatagramAmong, LaysOut, why_held, with_sets_held}, Whole.Whole}
use Rattle.npf_reass_whole.proofs.AmongLemmas.{all_zip_at, all_zip_long, at_place, piece_among}
use Rattle.npf_reass_whole.proofs.HoldLemmas.{IsHeldBy, IsHeldByNone, IsPutBy, IsPutByNone, held_or_not, length-datagrams, length-sets_held, put_or_not}

abbrev piece_or : Piece → Seen → Piece
piece_or p Seen.NoFragment = p
piece_or p Seen.Bad = p
piece_or p (Seen.Piece piece) = piece

piece_of_seen : (p q : Piece) → Seen.Piece p ≡ Seen.Piece q → p ≡ q
piece_of_seen p q e = ap (piece_or p) e

abbrev is_piece : Seen → Bool
is_piece Seen.NoFragment = false
is_piece Seen.Bad = false
is_piece (Seen.Piece piece) = true

-- the last piece of a set is one of it
pub last_among : (set : List Arrived) → 1 ≤ length set → (a : Arrived) × (Contains set a × (a.place ≡ last_place set))
last_among [] h = absurd (omega (arith, h))
last_among (a ∷ []) h = (a, ((zero, omega arith, refl), refl))
last_among (a ∷ b ∷ set) h =
    let x = last_among (b ∷ set) (omega arith) in
    (x.0, ((suc x.1.0.0, omega (arith, x.1.0.1), x.1.0.2), x.1.1))

module _ (packets bad : List Packet) (seens : List Seen) (sets : List Set) (ds : List PutTogether)
    (sees : AllZip SeenAs packets seens)
    (sound : All (IsSetAmong (arrived_from 0 packets seens)) sets)
    (own : (set : Set) → Contains sets set → All (Contains (arrived_from 0 packets seens)) set.pieces)
    (some : (set : Set) → Contains sets set → set.ending ≡ Complete → 1 ≤ length set.pieces)
    (every : All (IsInSet sets) (arrived_from 0 packets seens))
    (lays : LaysOut packets sets ds) (holds : HoldsBad packets bad) where
  abbrev held : List Packet
  held = with_sets_held sets bad

  abbrev whole : List Packet
  whole = with_datagrams ds held

  abbrev arrived : List Arrived
  arrived = arrived_from 0 packets seens

  module _ (place : ℕ) (d : Packet) (e : Seen) (here : place < length packets) where
    abbrev old : Packet
    old = get_or packets place d

    in_bad : place < length bad
    in_bad = omega (arith, here, holds.count)

    in_held : place < length held
    in_held = omega (arith, in_bad, length-sets_held sets bad)

    seen_here : SeenAs old (get_or seens place e)
    seen_here = all_zip_at SeenAs packets seens place d e sees here

    bad_here : HeldIfBad old (get_or bad place d) (get_or seens place e)
    bad_here = holds.each place d (get_or seens place e) here seen_here

    -- who has this place among the pieces
    seen_piece : (a : Arrived) → Contains arrived a → a.place ≡ place → get_or seens place e ≡ Seen.Piece a.piece
    seen_piece a c at =
        let x = at_place 0 packets seens a c in
        let there : place ≡ a.place - 0 = omega (arith, at) in
        ap (λ (n : ℕ). get_or seens n e) there ∙ x.seen e

    from_set : (set : Set) (a : Arrived) → Contains sets set → Contains set.pieces a → Contains arrived a
    from_set set a among has = All-contains (Contains arrived) set.pieces a (own set among) has

    -- a datagram of this place has a piece there
    put_piece : (x : IsPutBy ds place (get_or held place d) (get_or whole place d)) → (a : Arrived) × (Contains arrived a × (a.place ≡ place))
    put_piece x =
        let among = All-contains (IsDatagramAmong packets sets) ds x.datagram lays.each x.among in
        let last = last_among among.set.pieces (some among.set among.among among.complete) in
        (last.0, (from_set among.set last.0 among.among last.1.0, last.1.1 ∙ sym among.place ∙ x.at))

    -- where no piece has this place nothing is written
    module _ (none : (a : Arrived) → Contains arrived a → a.place ≢ place) where
      still : get_or whole place d ≡ get_or bad place d
      still =
          ⊎_elim (λ (x : IsPutBy ds place (get_or held place d) (get_or whole place d)).
          let a = put_piece x in absurd (none a.0 a.1.0 a.1.1))
          (λ (x : IsPutByNone ds place (get_or held place d) (get_or whole place d)). x.same
          ∙ ⊎_elim (λ (y : IsHeldBy sets place (get_or bad place d) (get_or held place d)). absurd (none y.a (from_set y.set y.a y.among y.has) y.at))
          (λ (y : IsHeldByNone sets place (get_or bad place d) (get_or held place d)). y.same)
          (held_or_not sets bad place d in_bad))
          (put_or_not ds held place d in_held)

    -- a piece has a set that says what became of it
    module _ (piece : Piece) (is : get_or seens place e ≡ Seen.Piece piece) (kept : get_or bad place d ≡ old) where
      abbrev this : Arrived
      this = record { place = place; time = old.time; piece = piece }

      among_all : Contains arrived this
      among_all =
          let first : 0 + place ≡ place = omega arith in
          subst (λ (n : ℕ). let x : Arrived = record { place = n; time = old.time; piece = piece } in Contains arrived x) first
          (piece_among 0 packets seens place d e piece here (omega (arith, here, all_zip_long SeenAs packets seens sees)) is)

      -- it is the only one of its place
      only : (a : Arrived) → Contains arrived a → a.place ≡ place → a ≡ this
      only a c at =
          let x = at_place 0 packets seens a c in
          let same = piece_of_seen a.piece piece (sym (seen_piece a c at) ∙ is) in
          let there : place ≡ a.place - 0 = omega (arith, at) in
          let time : old.time ≡ a.time = ap (λ (n : ℕ). (get_or packets n d).time) there ∙ x.time d in
          ap (λ (n : ℕ). let y : Arrived = record { place = n; time = a.time; piece = a.piece } in y) at
          ∙ ap (λ (n : ℕ). let y : Arrived = record { place = place; time = n; piece = a.piece } in y) (sym time)
          ∙ ap (λ (p : Piece). let y : Arrived = record { place = place; time = old.time; piece = p } in y) same

      follows_put : (x : IsPutBy ds place (get_or held place d) (get_or whole place d))
          → IsHeldBy sets place (get_or bad place d) (get_or held place d) → FollowsSet packets arrived this old (get_or whole place d)
      follows_put x y =
          let among = All-contains (IsDatagramAmong packets sets) ds x.datagram lays.each x.among in
          let last = last_among among.set.pieces (some among.set among.among among.complete) in
          let in_all = from_set among.set last.0 among.among last.1.0 in
          let at = last.1.1 ∙ sym among.place ∙ x.at in
          record {
            set = among.set;
            of = All-contains (IsSetAmong arrived) sets among.set sound among.among;
            among = subst (λ (a : Arrived). Contains among.set.pieces a) (only last.0 in_all at) last.1.0;
            follows = subst (λ (ending : Ending). FollowsEnding packets among.set place old (get_or whole place d) ending) (sym among.complete) (record {
              last = λ is_last. record {
                bytes = x.datagram.bytes;
                is = among.is;
                becomes = x.is ∙ ap (becomes x.datagram.bytes) (y.is ∙ ap (held_as (why_held y.set.ending)) kept);
              };
              other = λ is_other. absurd (is_other (sym (sym among.place ∙ x.at)));
            });
          }

      by_ending : (set : Set) (ending : Ending) → set.ending ≡ ending → Contains sets set → get_or whole place d ≡ held_as (why_held ending) old
          → IsPutByNone ds place (get_or held place d) (get_or whole place d) → FollowsEnding packets set place old (get_or whole place d) ending
      by_ending set Unfinished e c new none = new
      by_ending set Refused e c new none = new
      by_ending set Complete e c new none =
          record {
            last = λ is_last.
                let x = All-contains (HasDatagramIfComplete ds) sets set lays.all c e in
                absurd (none.none x.datagram x.among (x.place ∙ sym is_last));
            other = λ is_other. new;
          }

      follows_held : IsPutByNone ds place (get_or held place d) (get_or whole place d) → IsHeldBy sets place (get_or bad place d) (get_or held place d)
          → FollowsSet packets arrived this old (get_or whole place d)
      follows_held none y =
          let new = none.same ∙ y.is ∙ ap (held_as (why_held y.set.ending)) kept in
          record {
            set = y.set;
            of = All-contains (IsSetAmong arrived) sets y.set sound y.among;
            among = subst (λ (a : Arrived). Contains y.set.pieces a) (only y.a (from_set y.set y.a y.among y.has) y.at) y.has;
            follows = by_ending y.set y.set.ending refl y.among new none;
          }

      is_held : IsHeldBy sets place (get_or bad place d) (get_or held place d)
      is_held =
          ⊎_elim (λ (y : IsHeldBy sets place (get_or bad place d) (get_or held place d)). y)
          (λ (y : IsHeldByNone sets place (get_or bad place d) (get_or held place d)).
          let x = All-contains (IsInSet sets) arrived this every among_all in
          absurd (y.none x.set this x.among x.has refl))
          (held_or_not sets bad place d in_bad)

      follows : FollowsSet packets arrived this old (get_or whole place d)
      follows =
          ⊎_elim (λ (x : IsPutBy ds place (get_or held place d) (get_or whole place d)). follows_put x is_held)
          (λ (x : IsPutByNone ds place (get_or held place d) (get_or whole place d)). follows_held x is_held)
          (put_or_not ds held place d in_held)

    fate_of : (seen : Seen) → get_or seens place e ≡ seen → HasFate packets arrived place old (get_or whole place d) seen
    fate_of Seen.NoFragment is =
        still (λ a c at. differs (sym is ∙ seen_piece a c at)) ∙ (subst (HeldIfBad old (get_or bad place d)) is bad_here)
      where
        differs : {p : Piece} → Seen.NoFragment ≢ Seen.Piece p
        differs e = grind (arith, ap is_piece e)
    fate_of Seen.Bad is =
        still (λ a c at. differs (sym is ∙ seen_piece a c at)) ∙ (subst (HeldIfBad old (get_or bad place d)) is bad_here)
      where
        differs : {p : Piece} → Seen.Bad ≢ Seen.Piece p
        differs e = grind (arith, ap is_piece e)
    fate_of (Seen.Piece piece) is = follows piece is (subst (HeldIfBad old (get_or bad place d)) is bad_here)

    fate : HasFate packets arrived place old (get_or whole place d) (get_or seens place e)
    fate = fate_of (get_or seens place e) refl

  -- the same of the items that stand there
  told : (place : ℕ) (old new : Packet) (seen : Seen) → slice_get packets place ≡ Some old → slice_get whole place ≡ Some new →
      slice_get seens place ≡ Some seen → HasFate packets arrived place old new seen
  told place old new seen was is sees_so =
      let stands = fate place old seen (slice_get_within packets place old was) in
      subst (HasFate packets arrived place old new) (get_or_from_slice_get seens place seen seen sees_so)
      (subst (λ n. HasFate packets arrived place old n (get_or seens place seen)) (get_or_from_slice_get whole place new old is)
      (subst (λ o. HasFate packets arrived place o (get_or whole place old) (get_or seens place seen)) (get_or_from_slice_get packets place old old was) stands))

  pub is_whole : Whole packets whole
  is_whole = record {
    seens = seens;
    sees = sees;
    count = length-datagrams ds held ∙ length-sets_held sets bad ∙ holds.count;
    each = told;
  }
