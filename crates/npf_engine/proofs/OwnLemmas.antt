-- The entries of a packet among those of all passes are among its own pass's.
use Rattle.std.proofs.Common.{◌≡◌, ◌≢◌, ◌⊎◌, ℕ, Bool, true, false, ◌==◌, ◌||◌, List, [], ◌∷◌, refl, sym, ap, subst, ◌∙◌, inl, inr, rules}
use Rattle.std.{specs.{Prelude.if◌then◌else◌, List.Contains}, proofs.lemmas.Bool.{cases_Bool, Decides.{Decides-eqb, not_from_Decides}}}
use Rattle.std.proofs.lemmas.List.Elements.{Contains-append_right}
use Rattle.npf_core.specs.declared.act.{Act.TheVariants.{Claim, Look, Hold, Start, Step, Kill, Unhold, Free}, Why.TheVariants.{Abandoned, Expired}}
use Rattle.npf_core.specs.declared.{conn_id.ConnId.ConnId, reply.Reply.{Reply, TheVariants.{Nothing, ToClaim, ToHold, ToLook, ToStep}}}
use Rattle.npf_core.specs.{declared.stage.Stage.TheVariants.{Building, Dead, Live}, History.{LegalFrom, MayFollow, after, by, state_from}}
use Rattle.npf_core.{specs.{Machine.{Machine, stage_of}, NextState.is_id}, proofs.EqualityLemmas.is_id-Decides}
use Rattle.npf_core.proofs.LifeLemmas.{IsClaimed-is, IsClaimed-last, Life, Moves, abandons, built, claims, entry_moves, expires, frees, gone, keeps, killed}
use Rattle.npf_core.proofs.LifeLemmas.{life_at, life_at-last, life_of, lives, stage_in, stage_of-is, starts, steps, to_come}
use Rattle.npf_flow.specs.{declared.{flow.Flow.Flow, step.FlowReply.FlowReply}, Flows.flow_law}
use Rattle.npf_engine.specs.Histories.{FlowAct, FlowEntry, History, builds, carries, entries_after, is_one_of_ids, with_claimed}
use Rattle.npf_engine.proofs.TellingLemmas.{claimed_after}

-- claimed at some time, and Building under no other seat
abbrev IsOurs : ℕ → Life Flow → Type 0
IsOurs seat to_come = ⊥
IsOurs seat (built other) = other ≡ seat
IsOurs seat (lives flow n) = Unit {0}
IsOurs seat killed = Unit {0}
IsOurs seat gone = Unit {0}

-- Building no more
abbrev pub IsPast : Life Flow → Type 0
IsPast to_come = ⊥
IsPast (built seat) = ⊥
IsPast (lives flow n) = Unit {0}
IsPast killed = Unit {0}
IsPast gone = Unit {0}

module _ (entry : FlowEntry) (id : ConnId) where
  abbrev EntryMoves : Life Flow → Life Flow → Type 0
  EntryMoves x y = Moves flow_law entry.seat entry.act entry.reply id x y

  ours_moves : (seat : ℕ) (x y : Life Flow) → EntryMoves x y → IsOurs seat x → IsOurs seat y
  ours_moves seat _ _ (keeps silent) h = h
  ours_moves seat _ _ (claims packet act reply) h = absurd h
  ours_moves seat _ _ (starts packet init act answer) h = tt
  ours_moves seat _ _ (steps packet way arg flow n act reply) h = tt
  ours_moves seat _ _ (abandons act answer) h = tt
  ours_moves seat _ _ (expires now flow n act answer due) h = tt
  ours_moves seat _ _ (frees act answer) h = tt

  past_moves : (x y : Life Flow) → EntryMoves x y → IsPast x → IsPast y
  past_moves _ _ (keeps silent) h = h
  past_moves _ _ (claims packet act reply) h = absurd h
  past_moves _ _ (starts packet init act answer) h = absurd h
  past_moves _ _ (steps packet way arg flow n act reply) h = tt
  past_moves _ _ (abandons act answer) h = absurd h
  past_moves _ _ (expires now flow n act answer due) h = tt
  past_moves _ _ (frees act answer) h = tt

  claim_moves : (x y : Life Flow) → EntryMoves x y → entry.reply ≡ ToClaim id → IsOurs entry.seat y
  claim_moves _ _ (keeps silent) is = absurd (silent.claim is)
  claim_moves _ _ (claims packet act reply) is = refl
  claim_moves _ _ (starts packet init act answer) is = absurd cc
  claim_moves _ _ (steps packet way arg flow n act reply) is = absurd cc
  claim_moves _ _ (abandons act answer) is = absurd cc
  claim_moves _ _ (expires now flow n act answer due) is = absurd cc
  claim_moves _ _ (frees act answer) is = absurd cc

ours_builds : (seat other : ℕ) (x : Life Flow) → IsOurs seat x → stage_in x ≡ Building other → other ≡ seat
ours_builds seat other to_come h is = absurd h
ours_builds seat other (built by) h is = let same : by ≡ other = cc in sym same ∙ h
ours_builds seat other (lives flow n) h is = absurd cc
ours_builds seat other killed h is = absurd cc
ours_builds seat other gone h is = absurd cc

past_builds : (other : ℕ) (x : Life Flow) → IsPast x → ¬ (stage_in x ≡ Building other)
past_builds other to_come h is = h
past_builds other (built by) h is = h
past_builds other (lives flow n) h is = absurd cc
past_builds other killed h is = absurd cc
past_builds other gone h is = absurd cc

module _ (slots : ℕ) (k : Machine Flow) (entry : FlowEntry) (id : ConnId) (follows : MayFollow flow_law slots k entry) where
  -- the act is one of a connection that is Building under the entry's seat
  abbrev IsBuilding : Type 0
  IsBuilding = stage_of k id ≡ Building entry.seat

  held_builds : (key way : _) → entry.act ≡ Hold id key way → IsBuilding
  held_builds key way is = (rw is at follows.allowed).built

  given_up_builds : entry.act ≡ Kill id Abandoned → IsBuilding
  given_up_builds is = rw is at follows.allowed

  started_builds : (packet : ℕ) (init : Flow) → entry.act ≡ Start id packet init → IsBuilding
  started_builds packet init is = rw is at follows.allowed

  -- then it is Building no more
  pub started_is_past : (packet : ℕ) (init : Flow) → entry.act ≡ Start id packet init → IsPast (life_of (after flow_law k entry) id)
  started_is_past packet init is =
      let here : (id.slot == id.slot) ≡ true = (Decides-eqb id.slot id.slot).1 refl in
      let last = IsClaimed-last (k.slot id.slot) id.inc (IsClaimed-is _ _ (started_builds packet init is) tt) in
      let is_live : life_at (record (k.slot id.slot) { stage = Live init 1 }) id.inc ≡ lives init 1 = life_at-last (record (k.slot id.slot) { stage = Live init 1 }) id.inc last in
      rw (is, here, is_live) tt

  pub given_up_is_past : entry.act ≡ Kill id Abandoned → IsPast (life_of (after flow_law k entry) id)
  given_up_is_past is =
      let here : (id.slot == id.slot) ≡ true = (Decides-eqb id.slot id.slot).1 refl in
      let last = IsClaimed-last (k.slot id.slot) id.inc (IsClaimed-is _ _ (given_up_builds is) tt) in
      let is_dead : life_at (record (k.slot id.slot) { stage = Dead }) id.inc ≡ killed = life_at-last (record (k.slot id.slot) { stage = Dead }) id.inc last in
      rw (is, here, is_dead) tt

  pub stays_past_by : IsPast (life_of k id) → IsPast (life_of (after flow_law k entry) id)
  stays_past_by h = past_moves entry id _ _ (entry_moves flow_law slots k entry id follows) h

-- what was Building is Building no more in each later state
pub stays_past : (slots : ℕ) (k : Machine Flow) (entries : History) (id : ConnId) → LegalFrom flow_law slots k entries → IsPast (life_of k id) →
    IsPast (life_of (state_from flow_law k entries) id)
stays_past slots k [] id legal h = h
stays_past slots k (entry ∷ entries) id legal h = stays_past slots (after flow_law k entry) entries id legal.1 (stays_past_by slots k entry id legal.0 h)

-- the act builds one of the identities
pub data BuildsOne (ids : List ConnId) (act : FlowAct) : Type 0 where
  holds : (id : ConnId) (key way : _) → act ≡ Hold id key way → is_one_of_ids ids id ≡ true → BuildsOne ids act
  gives_up : (id : ConnId) → act ≡ Kill id Abandoned → is_one_of_ids ids id ≡ true → BuildsOne ids act

builds_one : (ids : List ConnId) (act : FlowAct) → builds ids act ≡ true → BuildsOne ids act
builds_one ids (Claim packet slot) is = absurd cc
builds_one ids (Look packet key) is = absurd cc
builds_one ids (Hold id key way) is = BuildsOne.holds id key way refl is
builds_one ids (Start id packet init) is = absurd cc
builds_one ids (Step packet id way arg) is = absurd cc
builds_one ids (Kill id Abandoned) is = BuildsOne.gives_up id refl is
builds_one ids (Kill id (Expired now)) is = absurd cc
builds_one ids (Unhold id way) is = absurd cc
builds_one ids (Free id) is = absurd cc

-- no entry builds a connection that is Building no more
pub past_builds_none : (slots : ℕ) (k : Machine Flow) (entry : FlowEntry) (ids : List ConnId) → MayFollow flow_law slots k entry →
    ((id : ConnId) → is_one_of_ids ids id ≡ true → IsPast (life_of k id)) → builds ids entry.act ≡ false
past_builds_none slots k entry ids follows past = elim (cases_Bool (builds ids entry.act)) [
  | inl is ↦ absurd (is_built (builds_one ids entry.act is))
  | inr is ↦ is
]
  where
    is_built : ¬ BuildsOne ids entry.act
    is_built (BuildsOne.holds id key way is among) = past_builds entry.seat _ (past id among) (sym (stage_of-is k id) ∙ held_builds slots k entry id follows key way is)
    is_built (BuildsOne.gives_up id is among) = past_builds entry.seat _ (past id among) (sym (stage_of-is k id) ∙ given_up_builds slots k entry id follows is)

-- an identity that a reply adds is the one that was claimed
one_claimed : (reply : Reply FlowReply) (ids : List ConnId) (id : ConnId) → is_one_of_ids (with_claimed reply ids) id ≡ true → (reply ≡ ToClaim id) ⊎ (is_one_of_ids ids id ≡ true)
one_claimed Nothing ids id is = inr is
one_claimed (ToClaim other) ids id is = at_test (is_id other id) refl is
  where
    at_test : (b : Bool) → is_id other id ≡ b → (b || is_one_of_ids ids id) ≡ true → (◌≡◌ {A = Reply FlowReply} (ToClaim other) (ToClaim id)) ⊎ (is_one_of_ids ids id ≡ true)
    at_test true same _ = inl (ap (λ (x : ConnId). ToClaim x) ((is_id-Decides other id).0 same))
    at_test false _ rest = inr rest
one_claimed (ToLook found) ids id is = inr is
one_claimed (ToHold held) ids id is = inr is
one_claimed (ToStep answer) ids id is = inr is

module _ (slots n seat : ℕ) where
  -- the identities that the packet has claimed are the seat's
  abbrev pub AreOurs : Machine Flow → List ConnId → Type 0
  AreOurs k ids = (id : ConnId) → is_one_of_ids ids id ≡ true → IsOurs seat (life_of k id)

  -- others' entries aren't the packet's
  abbrev pub CarryNone : History → Type 0
  CarryNone entries = (entry : FlowEntry) → Contains entries entry → entry.seat ≢ seat → carries n entry.act ≡ false

  abbrev next_ids : FlowEntry → List ConnId → List ConnId
  next_ids entry ids = if carries n entry.act then with_claimed entry.reply ids else ids

  module _ (k : Machine Flow) (entry : FlowEntry) (ids : List ConnId) (follows : MayFollow flow_law slots k entry) (ours : AreOurs k ids) where
    stay_ours : AreOurs (after flow_law k entry) ids
    stay_ours id is = ours_moves entry id seat _ _ (entry_moves flow_law slots k entry id follows) (ours id is)

    claimed_ours : entry.seat ≡ seat → (b : Bool) → AreOurs (after flow_law k entry) (if b then with_claimed entry.reply ids else ids)
    claimed_ours own false id is = stay_ours id is
    claimed_ours own true id is =
        elim (one_claimed entry.reply ids id is) [
          | inl claimed ↦ subst (λ s. IsOurs s (life_of (after flow_law k entry) id)) own (claim_moves entry id _ _ (entry_moves flow_law slots k entry id follows) claimed)
          | inr before ↦ stay_ours id before
        ]

    own_builds : BuildsOne ids entry.act → entry.seat ≡ seat
    own_builds (BuildsOne.holds id key way is among) =
        ours_builds seat entry.seat _ (ours id among) (sym (stage_of-is k id) ∙ held_builds slots k entry id follows key way is)
    own_builds (BuildsOne.gives_up id is among) =
        ours_builds seat entry.seat _ (ours id among) (sym (stage_of-is k id) ∙ given_up_builds slots k entry id follows is)

    others_build_none : entry.seat ≢ seat → builds ids entry.act ≡ false
    others_build_none other = elim (cases_Bool (builds ids entry.act)) [
      | inl is ↦ absurd (other (own_builds (builds_one ids entry.act is)))
      | inr is ↦ is
    ]

  -- the packet's entries, and the identities that it claims by them, are the same without the entries of others
  pub record SameByOwn (ids : List ConnId) (entries : History) : Type 0 where
    pub entries_same : entries_after n ids entries ≡ entries_after n ids (by seat entries)
    pub claimed_same : claimed_after n ids entries ≡ claimed_after n ids (by seat entries)

  keep_own : (ids : List ConnId) (entry : FlowEntry) (entries : History) → (entry.seat == seat) ≡ true → SameByOwn (next_ids entry ids) entries → SameByOwn ids (entry ∷ entries)
  keep_own ids entry entries own rest = at_tests (carries n entry.act) refl (builds ids entry.act) refl
    where
      at_tests : (c : Bool) → carries n entry.act ≡ c → (b : Bool) → builds ids entry.act ≡ b → SameByOwn ids (entry ∷ entries)
      at_tests true c b is = record {
        entries_same = rw (own, c) (ap (λ (es : History). entry ∷ es) (rw c at rest.entries_same));
        claimed_same = rw (claimed_after, own, c) (rw c at rest.claimed_same);
      }
      at_tests false c true is = record {
        entries_same = rw (own, c, is) (ap (λ (es : History). entry ∷ es) (rw c at rest.entries_same));
        claimed_same = rw (claimed_after, own, c) (rw c at rest.claimed_same);
      }
      at_tests false c false is = record {
        entries_same = rw (own, c, is) (rw c at rest.entries_same);
        claimed_same = rw (claimed_after, own, c) (rw c at rest.claimed_same);
      }

  leave_other : (ids : List ConnId) (entry : FlowEntry) (entries : History) → (entry.seat == seat) ≡ false → carries n entry.act ≡ false → builds ids entry.act ≡ false →
      SameByOwn ids entries → SameByOwn ids (entry ∷ entries)
  leave_other ids entry entries other c b rest = record { entries_same = rw (other, c, b) rest.entries_same; claimed_same = rw (claimed_after, other, c) rest.claimed_same }

  pub same_by_own : (k : Machine Flow) (ids : List ConnId) (entries : History) → LegalFrom flow_law slots k entries → AreOurs k ids → CarryNone entries → SameByOwn ids entries
  same_by_own k ids [] legal ours none = record { entries_same = refl; claimed_same = refl }
  same_by_own k ids (entry ∷ entries) legal ours none =
      let others : CarryNone entries = λ e c. none e (Contains-append_right (entry ∷ []) entries e c) in
      elim (cases_Bool (entry.seat == seat)) [
        | inl own ↦
            let is = (Decides-eqb entry.seat seat).0 own in
            keep_own ids entry entries own (same_by_own (after flow_law k entry) (next_ids entry ids) entries legal.1 (claimed_ours k entry ids legal.0 ours is (carries n entry.act)) others)
        | inr other ↦
            let is : entry.seat ≢ seat = not_from_Decides _ (Decides-eqb entry.seat seat) other in
            leave_other ids entry entries other (none entry (search rules) is) (others_build_none k entry ids legal.0 ours is)
            (same_by_own (after flow_law k entry) ids entries legal.1 (stay_ours k entry ids legal.0 ours) others)
      ]
