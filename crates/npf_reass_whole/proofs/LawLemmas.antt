-- What holds of every run whose fragments are put together.
use Rattle.std.{proofs.Common.{◌≡◌, ℕ, ⊎_elim, subst, zero, suc, refl, List, [], ◌∷◌, length, get_or, arith}, specs.Prelude.{All, Some, slice_get}}
use Rattle.std.{specs.List.AllZip, proofs.lemmas.{Bool.cases_eq, Option.{slice_get-get_or, slice_get_within}, List.Elements.{All-head, All-tail}}}
use Rattle.npf_traffic.specs.declared.packet.Packet.{Packet}
use Rattle.npf_pieces.specs.declared.{arrived.{Arrived.Arrived, Ending.{Ending, TheVariants.{Unfinished, Refused, Complete}}}, piece.Seen.Seen}
use Rattle.npf_pieces.specs.{Datagrams.last_place, Piece.SeenAs, Sets.Set}
use Rattle.npf_reass_sets.specs.Among.{arrived_from}
use Rattle.npf_reass_whole.{specs.{Fate.{FollowsEnding, HasFate}, Whole.{CrossesAlike, NoFragmentsStay, WholeKeeps}}, proofs.AmongLemmas.all_zip_long}

abbrev no_seens : List Packet → List Seen
no_seens [] = []
no_seens (p ∷ packets) = Seen.NoFragment ∷ no_seens packets

none_seen : (packets : List Packet) → All (λ packet. SeenAs packet Seen.NoFragment) packets → AllZip SeenAs packets (no_seens packets)
none_seen [] all = search
none_seen (p ∷ packets) all =
    (All-head (λ packet. SeenAs packet Seen.NoFragment) p packets all, none_seen packets (All-tail (λ packet. SeenAs packet Seen.NoFragment) p packets all))

seen_none : (packets : List Packet) (place : ℕ) (seen : Seen) → slice_get (no_seens packets) place ≡ Some seen → Seen.NoFragment ≡ seen
seen_none [] place seen is = absurd cc
seen_none (p ∷ packets) zero seen is = cc
seen_none (p ∷ packets) (suc place) seen is = seen_none packets place seen is

pub none_stay : NoFragmentsStay
none_stay packets all = record {
  seens = no_seens packets;
  sees = none_seen packets all;
  count = refl;
  each = λ place old new seen was is sees_so.
      let same : new ≡ old = cc in
      subst (HasFate packets (arrived_from 0 packets (no_seens packets)) place old new) (seen_none packets place seen sees_so) same;
}

alike : (old new kept : Packet) → new ≡ kept → kept.time ≡ old.time → kept.ifid ≡ old.ifid → kept.dir ≡ old.dir → CrossesAlike old new
alike old new kept is time ifid dir = rw is (record { time = time; ifid = ifid; dir = dir })

by_ending : (packets : List Packet) (set : Set) (place : ℕ) (old new : Packet) (ending : Ending) → FollowsEnding packets set place old new ending → CrossesAlike old new
by_ending packets set place old new Unfinished h = alike old new _ h refl refl refl
by_ending packets set place old new Refused h = alike old new _ h refl refl refl
by_ending packets set place old new Complete h =
    ⊎_elim (λ (e : place ≡ last_place set.pieces). alike old new _ (h.last e).becomes refl refl refl)
    (λ n. alike old new _ (h.other n) refl refl refl)
    (cases_eq place (last_place set.pieces))

keeps : (packets : List Packet) (arrived : List Arrived) (place : ℕ) (old new : Packet) (seen : Seen) → HasFate packets arrived place old new seen → CrossesAlike old new
keeps packets arrived place old new Seen.NoFragment h = alike old new old h refl refl refl
keeps packets arrived place old new Seen.Bad h = alike old new _ h refl refl refl
keeps packets arrived place old new (Seen.Piece piece) h = by_ending packets h.set place old new h.set.ending h.follows

pub whole_alike : WholeKeeps
whole_alike packets whole h place old new was is =
    let seen = get_or h.seens place Seen.NoFragment in
    let within = all_zip_long SeenAs packets h.seens h.sees in
    let here = slice_get_within packets place old was in
    keeps packets (arrived_from 0 packets h.seens) place old new seen
    (h.each place old new seen was is (slice_get-get_or h.seens place Seen.NoFragment (omega (arith, here, within))))
