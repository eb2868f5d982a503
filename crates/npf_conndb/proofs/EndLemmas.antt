-- The keys of a killed connection, given up one after the other.
use Rattle.std.proofs.Common.{◌≡◌, ◌↔◌, Bool, true, false, List, [], ◌∷◌, ◌++◌, cond, refl, sym, ◌∙◌, subst, append-nil}
use Rattle.npf_types.specs.declared.key.{Key.Key, Way.{Way, TheVariants.{Forward, Backward, Port}}}
use Rattle.npf_core.specs.declared.{act.{Act.TheVariants.{Kill, Unhold}, Why.Why}, conn_id.ConnId.ConnId, entry.Entry.Entry, reply.Reply.TheVariants.Nothing}
use Rattle.npf_core.specs.{History.state_of, Machine.{Machine, Holds, HoldsNone, HoldsSome}, Meaning.Meaning}
use Rattle.npf_connections.specs.{Adding.AddsOwn, Entries.{entry_of, end_entries}, Pass.Pass, Ways.HoldsThese}
use Rattle.npf_conndb.{specs.Ends.{AddsIf, GaveUpKey}, proofs.AddingLemmas.adds_one}

-- the ways of which it held a key
abbrev pub held_ways : Bool → Bool → Bool → Way → Bool
held_ways forward backward port Forward = forward
held_ways forward backward port Backward = backward
held_ways forward backward port Port = port

module _ {S A R : Type 0} (old : Pass (Entry S A R)) (id : ConnId) where
  abbrev gives_up : Way → Entry S A R
  gives_up way = entry_of old (Unhold id way) Nothing

  abbrev gives_up_if : Bool → Way → List (Entry S A R)
  gives_up_if held way = cond held (gives_up way ∷ []) []

  in_order : (why : Why) (forward backward port : Bool) → ((entry_of old (Kill id why) Nothing ∷ [] ++ gives_up_if forward Forward) ++ gives_up_if backward Backward) ++
      gives_up_if port Port ≡ end_entries old id why (held_ways forward backward port)
  in_order why true true true = refl
  in_order why true true false = refl
  in_order why true false true = refl
  in_order why true false false = refl
  in_order why false true true = refl
  in_order why false true false = refl
  in_order why false false true = refl
  in_order why false false false = refl

  -- what was added goes on by what was given up
  adds_if : (mid : Pass (Entry S A R)) (new mine : List (Entry S A R)) (held : Bool) (way : Way) → mid.number ≡ old.number →
      mid.joined ≡ old.joined → AddsOwn old mid.history mine → AddsIf held mid new (entry_of mid (Unhold id way) Nothing) →
      AddsOwn old new (mine ++ gives_up_if held way)
  adds_if mid new mine true way number joined first then =
      subst (λ n. AddsOwn old new (mine ++ (record { seat = n; act = Unhold id way; reply = Nothing }) ∷ [])) number
      (adds_one old mid new mine (entry_of mid (Unhold id way) Nothing) number joined first.adds then)
  adds_if mid new mine false way number joined first then = subst (λ h. AddsOwn old h (mine ++ [])) (sym then) (subst (AddsOwn old mid.history) (sym (append-nil mine)) first)

-- what two lists of keys agree on
same_some : {S : Type 0} (k next : Machine S) (id : ConnId) (way : Way) → ((key : Key) → Holds k id way key ↔ Holds next id way key) → HoldsSome k id way ↔ HoldsSome next id way
same_some k next id way same = (λ some. (some.0, (same some.0).0 some.1), λ some. (some.0, (same some.0).1 some.1))

same_none : {S : Type 0} (k next : Machine S) (id : ConnId) (way : Way) → ((key : Key) → Holds k id way key ↔ Holds next id way key) → HoldsNone k id way → HoldsNone next id way
same_none k next id way same none key held = none key ((same key).1 held)

both : {P Q T : Type 0} → (P ↔ Q) → (Q ↔ T) → (P ↔ T)
both a b = (λ p. b.0 (a.0 p), λ t. a.1 (b.1 t))

module _ {S A R : Type 0} (m : Meaning S A R) (id : ConnId) (killed one two three : Pass (Entry S A R)) (forward : GaveUpKey m id Forward killed one)
    (backward : GaveUpKey m id Backward one two) (port : GaveUpKey m id Port two three) where
  abbrev pub held : Way → Bool
  held = held_ways forward.held backward.held port.held

  abbrev pub k0 : Machine S
  k0 = state_of m killed.history

  abbrev pub k1 : Machine S
  k1 = state_of m one.history

  abbrev pub k2 : Machine S
  k2 = state_of m two.history

  abbrev pub k3 : Machine S
  k3 = state_of m three.history

  -- they tell which keys it held
  pub holds_these : HoldsThese k0 id held
  holds_these Forward = forward.tells
  holds_these Backward = both (same_some k0 k1 id Backward (λ key. forward.others Backward key (λ e. cc))) backward.tells
  holds_these Port = both (same_some k0 k1 id Port (λ key. forward.others Port key (λ e. cc))) (both (same_some k1 k2 id Port (λ key. backward.others Port key (λ e. cc))) port.tells)

  -- and it holds none
  pub holds_none : (way : Way) → HoldsNone k3 id way
  holds_none Forward = same_none k2 k3 id Forward (λ key. port.others Forward key (λ e. cc)) (same_none k1 k2 id Forward (λ key. backward.others Forward key (λ e. cc)) forward.none)
  holds_none Backward = same_none k2 k3 id Backward (λ key. port.others Backward key (λ e. cc)) backward.none
  holds_none Port = port.none

  -- behind the kill the entries are those of the connection's end
  pub ends : (old : Pass (Entry S A R)) (why : Why) → killed.number ≡ old.number → killed.joined ≡ old.joined →
      AddsOwn old killed.history (entry_of old (Kill id why) Nothing ∷ []) → AddsOwn old three.history (end_entries old id why held)
  ends old why number joined kill = subst (AddsOwn old three.history) (in_order old id why forward.held backward.held port.held)
      (adds_if old id two three.history _ port.held Port (backward.number ∙ (forward.number ∙ number)) (backward.joined ∙ (forward.joined ∙ joined))
      (adds_if old id one two.history _ backward.held Backward (forward.number ∙ number) (forward.joined ∙ joined)
      (adds_if old id killed one.history _ forward.held Forward number joined kill forward.adds) backward.adds)
      port.adds)
