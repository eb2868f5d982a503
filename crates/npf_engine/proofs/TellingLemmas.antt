-- Of what a pass says for a packet, all but that keys were given back are entries of the packet.
use Rattle.std.{proofs.Common.{◌≡◌, ℕ, Bool, true, false, ◌==◌, ◌||◌, List, [], ◌∷◌, ◌++◌, map, refl, sym, ap}, specs.{Prelude.if◌then◌else◌, List.filter}}
use Rattle.std.proofs.lemmas.Bool.Decides.{Decides-eqb}
use Rattle.npf_types.specs.declared.{address.Addr.Addr, facts.Facts.Facts, key.{Key.Key, Way.{Way, TheVariants.Forward}}}
use Rattle.npf_core.specs.declared.act.{Act.TheVariants.{Claim, Look, Hold, Start, Step, Kill, Unhold, Free}, Why.TheVariants.Abandoned}
use Rattle.npf_core.specs.{declared.{conn_id.ConnId.ConnId, held.Held.Held, reply.Reply.TheVariants.Nothing}, NextState.is_id}
use Rattle.npf_core.proofs.EqualityLemmas.{is_id-Decides}
use Rattle.npf_connections.specs.{Said.under, Ways.all_ways}
use Rattle.npf_flow.specs.declared.{flow.Flow.Flow, step.FlowArg.FlowArg}
use Rattle.npf_engine_opening.specs.{declared.attempt.{Attempt.Attempt, Opened.Opened}, Draw.{Draws, TakenPort, taken_said}}
use Rattle.npf_engine_opening.specs.{Opening.{Builds, OpensConnection, Translates}, Saying.{FlowSaid, abandon_said, hold_said, said_by_hold}}
use Rattle.npf_engine_opening.specs.{Start.{HoldsBackward, StartsConnection}, Ways.{is_one_of, ways_before}}
use Rattle.npf_engine.specs.{Arrival.Arrival, Connection.{FindsByKey, FindsEither}, Gateway.AsksQuoted}
use Rattle.npf_engine.specs.Histories.{FlowAct, History, builds, carries, entries_after, is_one_of_ids, is_unhold, told, with_claimed}

-- what is said from a place on, at which the packet has claimed the one identities, and behind which it has claimed the others
pub data IsTold (n : ℕ) : List ConnId → List FlowSaid → List ConnId → Type 0 where
  nothing : {ids : List ConnId} → IsTold n ids [] ids
  carried : {ids last : List ConnId} {x : FlowSaid} {xs : List FlowSaid} → carries n x.act ≡ true → IsTold n (with_claimed x.reply ids) xs last → IsTold n ids (x ∷ xs) last
  built : {ids last : List ConnId} {x : FlowSaid} {xs : List FlowSaid} → carries n x.act ≡ false → builds ids x.act ≡ true → IsTold n ids xs last → IsTold n ids (x ∷ xs) last
  given_back : {ids last : List ConnId} {x : FlowSaid} {xs : List FlowSaid} → is_unhold x.act ≡ true → IsTold n ids xs last → IsTold n ids (x ∷ xs) last

-- the identities that a packet has claimed behind entries
abbrev pub claimed_after : ℕ → List ConnId → History → List ConnId
claimed_after n ids [] = ids
claimed_after n ids (entry ∷ entries) = claimed_after n (if carries n entry.act then with_claimed entry.reply ids else ids) entries

pub told_more : {n : ℕ} {ids mid last : List ConnId} {xs ys : List FlowSaid} → IsTold n ids xs mid → IsTold n mid ys last → IsTold n ids (xs ++ ys) last
told_more nothing q = q
told_more (carried c p) q = carried c (told_more p q)
told_more (built c b p) q = built c b (told_more p q)
told_more (given_back u p) q = given_back u (told_more p q)

module _ (n : ℕ) (ids : List ConnId) where
  carried_is_kept : (act : FlowAct) → carries n act ≡ true → is_unhold act ≡ false
  carried_is_kept (Claim packet slot) c = refl
  carried_is_kept (Look packet key) c = refl
  carried_is_kept (Hold id key way) c = refl
  carried_is_kept (Start id packet init) c = refl
  carried_is_kept (Step packet id way arg) c = refl
  carried_is_kept (Kill id why) c = refl
  carried_is_kept (Unhold id way) c = absurd cc
  carried_is_kept (Free id) c = refl

  built_is_kept : (act : FlowAct) → builds ids act ≡ true → is_unhold act ≡ false
  built_is_kept (Claim packet slot) b = refl
  built_is_kept (Look packet key) b = refl
  built_is_kept (Hold id key way) b = refl
  built_is_kept (Start id packet init) b = refl
  built_is_kept (Step packet id way arg) b = refl
  built_is_kept (Kill id why) b = refl
  built_is_kept (Unhold id way) b = absurd cc
  built_is_kept (Free id) b = refl

  given_back_is_left : (act : FlowAct) → is_unhold act ≡ true → (carries n act ≡ false) × (builds ids act ≡ false)
  given_back_is_left (Claim packet slot) u = absurd cc
  given_back_is_left (Look packet key) u = absurd cc
  given_back_is_left (Hold id key way) u = absurd cc
  given_back_is_left (Start id packet init) u = absurd cc
  given_back_is_left (Step packet id way arg) u = absurd cc
  given_back_is_left (Kill id why) u = absurd cc
  given_back_is_left (Unhold id way) u = (refl, refl)
  given_back_is_left (Free id) u = absurd cc

-- so the packet's entries among these are what is told of them
pub entries_told : {n : ℕ} {ids last : List ConnId} {said : List FlowSaid} (seat : ℕ) → IsTold n ids said last → entries_after n ids (under seat said) ≡ under seat (told said)
entries_told seat nothing = refl
entries_told {n} {ids} seat (carried {x = x} c p) =
    let keeps = carried_is_kept n ids x.act c in
    rw (c, keeps) (ap (λ (es : History). record { seat = seat; act = x.act; reply = x.reply } ∷ es) (entries_told seat p))
entries_told {n} {ids} seat (built {x = x} c b p) =
    let keeps = built_is_kept n ids x.act b in
    rw (c, b, keeps) (ap (λ (es : History). record { seat = seat; act = x.act; reply = x.reply } ∷ es) (entries_told seat p))
entries_told {n} {ids} seat (given_back {x = x} u p) =
    let left = given_back_is_left n ids x.act u in
    rw (left.0, left.1, u) (entries_told seat p)

pub claimed_told : {n : ℕ} {ids last : List ConnId} {said : List FlowSaid} (seat : ℕ) → IsTold n ids said last → claimed_after n ids (under seat said) ≡ last
claimed_told seat nothing = refl
claimed_told seat (carried c p) = rw (claimed_after, c) (claimed_told seat p)
claimed_told seat (built c b p) = rw (claimed_after, c) (claimed_told seat p)
claimed_told {n} {ids} seat (given_back {x = x} u p) = rw (claimed_after, (given_back_is_left n ids x.act u).0) (claimed_told seat p)

module _ (n : ℕ) (ids : List ConnId) where
  self : (n == n) ≡ true
  self = (Decides-eqb n n).1 refl

  finds_told : {arg : FlowArg} {key : Key} {said : List FlowSaid} {result : _} → FindsByKey n arg key said result → IsTold n ids said ids
  finds_told FindsByKey.free = carried self nothing
  finds_told (FindsByKey.port way) = carried self nothing
  finds_told (FindsByKey.dead way) = carried self (carried self nothing)
  finds_told (FindsByKey.live way) = carried self (carried self nothing)

  pub either_told : {arg : FlowArg} {own every : Key} {said : List FlowSaid} {result : _} → FindsEither n arg own every said result → IsTold n ids said ids
  either_told (FindsEither.by_own finds) = finds_told finds
  either_told (FindsEither.by_every missed finds) = told_more (finds_told missed) (finds_told finds)

pub quoted_told : {gateway : Bool} {arrival : Arrival} {facts : Facts} {said : List FlowSaid} {result : _} (ids : List ConnId) →
    AsksQuoted gateway arrival facts said result → IsTold arrival.number ids said ids
quoted_told ids (AsksQuoted.off off) = nothing
quoted_told ids (AsksQuoted.no_error none) = nothing
quoted_told {arrival = arrival} ids (AsksQuoted.quotes on error finds) = either_told arrival.number ids finds

-- a connection is started or killed
pub data HasEnd (id : ConnId) : List FlowSaid → Type 0 where
  has_start : {x : FlowSaid} {xs : List FlowSaid} (packet : ℕ) (init : Flow) → x.act ≡ Start id packet init → HasEnd id (x ∷ xs)
  has_kill : {x : FlowSaid} {xs : List FlowSaid} → x.act ≡ Kill id Abandoned → HasEnd id (x ∷ xs)
  has_later : {x : FlowSaid} {xs : List FlowSaid} → HasEnd id xs → HasEnd id (x ∷ xs)

pub ends_behind : {id : ConnId} (xs : List FlowSaid) {ys : List FlowSaid} → HasEnd id ys → HasEnd id (xs ++ ys)
ends_behind [] ends = ends
ends_behind (x ∷ xs) ends = has_later (ends_behind xs ends)

-- what is said of the one connection that the packet has claimed
module _ (attempt : Attempt) (id : ConnId) where
  abbrev TellsOf : List FlowSaid → Type 0
  TellsOf said = IsTold attempt.packet (id ∷ []) said (id ∷ [])

  among : is_one_of_ids (id ∷ []) id ≡ true
  among = let same : is_id id id ≡ true = (is_id-Decides id id).1 refl in rw same refl

  given_back_told : (ways : List Way) → TellsOf (map (λ way. record { act = Unhold id way; reply = Nothing }) ways)
  given_back_told [] = nothing
  given_back_told (way ∷ ways) = given_back refl (given_back_told ways)

  abandon_told : (ways : List Way) → TellsOf (abandon_said id ways)
  abandon_told ways = built refl among (given_back_told (filter (is_one_of ways) all_ways))

  hold_told : (key : Key) (way : Way) (held : Held) → TellsOf (hold_said id key way held ∷ [])
  hold_told key way held = built refl among nothing

  held_told : (key : Key) (way : Way) (held : Held) → TellsOf (said_by_hold id key way held)
  held_told key way Held.Done = hold_told key way Held.Done
  held_told key way (Held.Taken holder) = hold_told key way (Held.Taken holder)
  held_told key way Held.NoNode = nothing

  taken_told : (addr : Addr) (taken : List TakenPort) → TellsOf (taken_said id addr taken)
  taken_told addr [] = nothing
  taken_told addr (port ∷ ports) = built refl among (taken_told addr ports)

  draws_told : {addr : Addr} {ports : List ℕ} {said : List FlowSaid} {drawn : _} → Draws id addr ports said drawn → TellsOf said
  draws_told {addr} (Draws.given before port behind are) = told_more (taken_told addr before) (built refl among nothing)
  draws_told {addr} (Draws.all_taken all are) = taken_told addr all
  draws_told {addr} (Draws.no_node before port behind are) = taken_told addr before

  backward_told : {there : _} {said : List FlowSaid} {held : Held} → HoldsBackward attempt id there said held → TellsOf said
  backward_told (HoldsBackward.one_key same) = nothing
  backward_told (HoldsBackward.two_keys held other) = held_told _ _ held

  packet_is : (attempt.packet == attempt.packet) ≡ true
  packet_is = (Decides-eqb attempt.packet attempt.packet).1 refl

  starts_told : {changes : _} {said : List FlowSaid} {opened : Opened} → StartsConnection attempt id changes said opened → TellsOf said × HasEnd id said
  starts_told (StartsConnection.started said holds) = (told_more (backward_told holds) (carried packet_is nothing), ends_behind said (has_start attempt.packet _ refl))
  starts_told (StartsConnection.taken said holder holds) = (told_more (backward_told holds) (abandon_told (ways_before attempt.plan)), ends_behind said (has_kill refl))
  starts_told (StartsConnection.no_node said holds) = (told_more (backward_told holds) (abandon_told (ways_before attempt.plan)), ends_behind said (has_kill refl))

  translates_told : {said : List FlowSaid} {opened : Opened} → Translates attempt id said opened → TellsOf said × HasEnd id said
  translates_told (Translates.fixed there back said opened plan starts) = starts_told starts
  translates_told (Translates.drawn addr min max first port draws said opened plan drawn starts) =
      let started = starts_told starts in (told_more (draws_told drawn) started.0, ends_behind draws started.1)
  translates_told (Translates.undrawn addr min max first why draws plan drawn) =
      (told_more (draws_told drawn) (abandon_told (Forward ∷ [])), ends_behind draws (has_kill refl))

  builds_told : {said : List FlowSaid} {opened : Opened} → Builds attempt id said opened → TellsOf said × HasEnd id said
  builds_told (Builds.held said opened translates) = let translated = translates_told translates in (built refl among translated.0, has_later translated.1)
  builds_told (Builds.known holder answer) =
      (built refl among (told_more (abandon_told []) (carried packet_is nothing)), has_later (has_kill refl))
  builds_told Builds.no_node = (abandon_told [], has_kill refl)

-- what is told of an opening, and that it ends with each identity that it claimed
pub record TellsOpening (n : ℕ) (said : List FlowSaid) : Type 0 where
  pub last : List ConnId
  pub is_told : IsTold n [] said last
  pub ended : (id : ConnId) → is_one_of_ids last id ≡ true → HasEnd id said

only_one : (id other : ConnId) → is_one_of_ids (id ∷ []) other ≡ true → id ≡ other
only_one id other is = at_test (is_id id other) refl is
  where
    at_test : (b : Bool) → is_id id other ≡ b → (b || false) ≡ true → id ≡ other
    at_test true same _ = (is_id-Decides id other).0 same
    at_test false _ none = absurd cc

pub opens_told : {attempt : Attempt} {said : List FlowSaid} {opened : Opened} → OpensConnection attempt said opened → TellsOpening attempt.packet said
opens_told OpensConnection.full = record { last = []; is_told = nothing; ended = λ id none. absurd cc }
opens_told {attempt} (OpensConnection.begun id said opened building) =
    let started = builds_told attempt id building in
    record {
      last = id ∷ [];
      is_told = carried (packet_is attempt id) started.0;
      ended = λ other is. rw (sym (only_one id other is)) (has_later started.1);
    }
