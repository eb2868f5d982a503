-- The calls by which connections are loaded, of a pass that owns all reader places.
use Rattle.std.proofs.Common.{◌≡◌, ◌≢◌, ◌≤◌, ℕ, Bool, true, false, cond, Option, Some, None, List, [], ◌∷◌, ◌++◌, Contains, refl, sym, ap, subst, ◌∙◌, append-nil, inl, inr}
use Rattle.std.specs.Prelude.{◌⊎◌}
use Rattle.npf_types.specs.declared.key.{Key.Key, Way.Way}
use Rattle.npf_core.specs.declared.{act.Act.TheVariants.Hold, conn_id.ConnId.ConnId, found.Found.Found, held.Held.Held, reply.Reply.{Reply, TheVariants.ToHold}}
use Rattle.npf_core.specs.{History.{Legal, state_of}, Machine.{Machine, is_key, HoldsNone}, NextState.holder_or, Replies.held_by}
use Rattle.npf_core.proofs.{EqualityLemmas.is_key-Decides, HistoryLemmas.{goes_on_legally, state_of-append}}
use Rattle.npf_connections.{specs.{Adding.Adds, Pass.{IsPass, all_places}, Stay.GoesOn}, proofs.AddLemmas.adds_alone}
use Rattle.npf_flow.specs.{declared.{flow.Flow.Flow, step.FlowReply.FlowReply}, Flows.flow_law}
use Rattle.npf_connsave.{specs.Loads.{AreFree, FlowEntry, StaysSole, View, entry, hold_entries_of}, proofs.BuiltLemmas.given_by}

-- a call adds its entries alone
pub alone_after : (old new : View) (mine : List FlowEntry) → IsPass flow_law new → StaysSole old new → old.places ≡ all_places → Adds old new.history mine
    → new.history ≡ old.history ++ mine
alone_after old new mine pass same sole adds = adds_alone flow_law old new mine pass (same.places ∙ sole) same.number same.joined adds

-- a call that goes on in this way leaves the pass with its table
pub sole_after : (old new : View) (answered builds : List ConnId) → GoesOn (record old { answered = answered; builds = builds; sweeps = new.sweeps }) new
    → old.sweeps ≤ new.sweeps → StaysSole old new
sole_after old new answered builds on sweeps = record {
  slots = ap (λ (v : View). v.slots) on.view;
  number = ap (λ (v : View). v.number) on.view;
  entered = ap (λ (v : View). v.entered) on.view;
  places = ap (λ (v : View). v.places) on.view;
  joined = ap (λ (v : View). v.joined) on.view;
  sweeps = sweeps;
  epoch = on.epoch;
}

-- a key without a holder isn't Taken
pub not_refused : (slots : ℕ) (history : List FlowEntry) (seat : ℕ) (id : ConnId) (way : Way) (key : Key) (found : Found)
    → Legal flow_law slots (history ++ entry seat (Hold id key way) (ToHold (Held.Taken found)) ∷ []) → (state_of flow_law history).holder key ≡ None → ⊥
not_refused slots history seat id way key found legal free =
    let follows = ((goes_on_legally flow_law slots history (entry seat (Hold id key way) (ToHold (Held.Taken found)))).0 legal).1 in
    let replied : ◌≡◌ {A = Reply FlowReply} (ToHold (Held.Taken found)) (ToHold (held_by None)) = follows.replied ∙ ap (λ holder. ToHold (held_by holder)) free in
    let same : Held.Taken found ≡ Held.Done = cc in
    absurd cc

still_free : (b : Bool) (old : Option Found) (new : Found) → b ≡ false → old ≡ None → cond b (holder_or old new) old ≡ None
still_free true old new other free = absurd cc
still_free false old new other free = free

module _ (history : List FlowEntry) (seat : ℕ) (id : ConnId) (way : Way) where
  -- another way without a key stays so
  pub bare_after : (key : Option Key) (other : Way) → way ≢ other → HoldsNone (state_of flow_law history) id other
      → HoldsNone (state_of flow_law (history ++ hold_entries_of seat id way key)) id other
  bare_after None other differs none = subst (λ (h : List FlowEntry). HoldsNone (state_of flow_law h) id other) (sym (append-nil history)) none
  bare_after (Some key) other differs none =
      subst (λ (k : Machine Flow). HoldsNone k id other) (sym (state_of-append flow_law history (entry seat (Hold id key way) (ToHold Held.Done))))
      (λ at is. by at (given_by (is_key key at) ((state_of flow_law history).holder at) (record { id = id; way = way }) (record { id = id; way = other }) is)) where
        by : (at : Key) → ((state_of flow_law history).holder at ≡ Some (record { id = id; way = other })) ⊎
            ((is_key key at ≡ true) × (◌≡◌ {A = Found} (record { id = id; way = way }) (record { id = id; way = other }))) → ⊥
        by at (inl old) = none at old
        by at (inr new) = differs (ap (λ (f : Found). f.way) new.1)

  -- and another key free
  pub free_after : (key : Option Key) (keys : List Key) → ((mine other : Key) → key ≡ Some mine → Contains keys other → mine ≢ other) → AreFree (state_of flow_law history) keys
      → AreFree (state_of flow_law (history ++ hold_entries_of seat id way key)) keys
  free_after None keys differ free = subst (λ (h : List FlowEntry). AreFree (state_of flow_law h) keys) (sym (append-nil history)) free
  free_after (Some key) keys differ free =
      subst (λ (k : Machine Flow). AreFree k keys) (sym (state_of-append flow_law history (entry seat (Hold id key way) (ToHold Held.Done))))
      (λ other there. still_free (is_key key other) ((state_of flow_law history).holder other) (record { id = id; way = way }) (unlike other (differ key other refl there)) (free other there)) where
        unlike : (other : Key) → key ≢ other → is_key key other ≡ false
        unlike other apart = by (is_key key other) refl where
          by : (b : Bool) → is_key key other ≡ b → b ≡ false
          by true is = absurd (apart ((is_key-Decides key other).0 is))
          by false is = refl
