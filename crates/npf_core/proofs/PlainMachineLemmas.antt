-- What a plain machine's lists make of its state.
use Rattle.std.{proofs.Common.{◌≡◌, ℕ, Bool, true, false, List, ◌∷◌, [], ◌++◌, Some, cond, refl, ap, sym, ◌∙◌}, specs.Prelude.{◌==◌, IsTrue, filter, ◌↔◌}}
use Rattle.std.{specs.List.list_any, proofs.lemmas.Bool.Decides.Decides-eqb}
use Rattle.npf_types.specs.declared.key.{Key.Key, Way.Way}
use Rattle.npf_core.specs.declared.{act.Act.TheVariants.{Hold, Free}, conn_id.ConnId.ConnId, found.Found.Found, hold.Holding.Holding, stage.Stage.Stage}
use Rattle.npf_core.specs.{declared.stage.Stage.TheVariants.{Vacant, Dead}, Hold.{holder_in, is_each_once}}
use Rattle.npf_core.specs.{Machine.{Machine, stage_of, is_key, IsClaimed, HoldsSome, HoldsNone}, Meaning.Meaning}
use Rattle.npf_core.specs.{NextState.{is_found, is_id, holder_or, given_up, after_act}, PlainMachine.at_stage}
use Rattle.npf_core.proofs.{HoldingLemmas.{holder_in-push, holder_in-filter, is_other, held_by_any, any_by_held}, LifeLemmas.{IsClaimed-last, IsClaimed-is}}
use Rattle.npf_core.proofs.EqualityLemmas.{is_key-Decides, is_found-Decides, is_id-Decides}

-- a machine is its slots and its holders
pub same_machine : {S : Type 0} (k l : Machine S) → ((s : ℕ) → k.slot s ≡ l.slot s) → ((key : Key) → k.holder key ≡ l.holder key) → k ≡ l
same_machine k l slots holders = λ i. record { slot = λ s. slots s i; holder = λ key. holders key i }

pub given_state : (xs : List Holding) (key : Key) (found : Found) →
    holder_in (xs ++ record { key = key; found = found } ∷ []) ≡ (λ other. cond (is_key key other) (holder_or (holder_in xs other) found) (holder_in xs other))
given_state xs key found = λ i other. holder_in-push xs (record { key = key; found = found }) other i

pub taken_state : (xs : List Holding) (found : Found) → IsTrue (is_each_once xs) → holder_in (filter (is_other found) xs) ≡ (λ key. given_up (holder_in xs key) found)
taken_state xs found once = λ i key. holder_in-filter found xs key once i

-- the key of that way is held
pub is_held_means : (xs : List Holding) (found : Found) → IsTrue (is_each_once xs) →
    IsTrue (list_any (λ holding. is_found holding.found found) xs) ↔ ((key : Key) × (holder_in xs key ≡ Some found))
is_held_means xs found once = (
  λ any.
      let held = held_by_any (λ f. is_found f found) xs once any in
      (held.key, held.held ∙ ap (λ f. Some f) ((is_found-Decides held.found found).0 held.passes)),
  λ held. any_by_held (λ f. is_found f found) xs (record { key = held.0; found = found; held = held.1; passes = (is_found-Decides found found).1 refl }),
)

-- the connection holds a key
pub is_held_by_means : (xs : List Holding) (id : ConnId) → IsTrue (is_each_once xs) →
    IsTrue (list_any (λ holding. is_id holding.found.id id) xs) ↔ ((way : Way) × ((key : Key) × (holder_in xs key ≡ Some (record { id = id; way = way }))))
is_held_by_means xs id once = (
  λ any.
      let held = held_by_any (λ f. is_id f.id id) xs once any in
      let same : held.found.id ≡ id = (is_id-Decides held.found.id id).0 held.passes in
      let found : held.found ≡ record { id = id; way = held.found.way } = λ i. record { id = same i; way = held.found.way } in
      (held.found.way, (held.key, held.held ∙ ap (λ f. Some f) found)),
  λ held.
      any_by_held (λ f. is_id f.id id) xs
      (record { key = held.1.0; found = record { id = id; way = held.0 }; held = held.1.1; passes = (is_id-Decides id id).1 refl }),
)

-- a test that found no key
pub holds_none : {S : Type 0} (k : Machine S) (id : ConnId) (way : Way) (held : Bool) → IsTrue held ↔ HoldsSome k id way → held ≡ false → HoldsNone k id way
holds_none k id way held means e key holds = let known : held ≡ true = means.1 (key, holds) in cc

pub holds_nothing : {S : Type 0} (k : Machine S) (id : ConnId) (held : Bool) → IsTrue held ↔ ((way : Way) × HoldsSome k id way) → held ≡ false → (way : Way) → HoldsNone k id way
holds_nothing k id held means e way key holds = let known : held ≡ true = means.1 (way, (key, holds)) in cc

-- a Hold of a key that has a holder changes nothing
pub taken_stays : {S A R : Type 0} (m : Meaning S A R) (k : Machine S) (seat : ℕ) (id : ConnId) (key : Key) (way : Way) (holder : Found) →
    k.holder key ≡ Some holder → k ≡ after_act m k seat (Hold id key way)
taken_stays m k seat id key way holder e =
    same_machine k (after_act m k seat (Hold id key way)) (λ s. refl) (λ other. by_test other (is_key key other) refl)
  where
    by_test : (other : Key) (same : Bool) → is_key key other ≡ same → k.holder other ≡ cond same (holder_or (k.holder other) (record { id = id; way = way })) (k.holder other)
    by_test other true t = let held : k.holder other ≡ Some holder = ap k.holder (sym ((is_key-Decides key other).0 t)) ∙ e in rw held refl
    by_test other false t = refl

-- a slot set anew for a claimed identity keeps its incarnation
restaged : {S : Type 0} (k : Machine S) (id : ConnId) (stage : Stage S) → IsClaimed (stage_of k id) → (s : ℕ) →
    cond (id.slot == s) (record { inc = id.inc; stage = stage }) (k.slot s) ≡ cond (id.slot == s) (record (k.slot s) { stage = stage }) (k.slot s)
restaged k id stage claimed s = by_test (id.slot == s) refl
  where
    by_test : (here : Bool) → (id.slot == s) ≡ here → cond here (record { inc = id.inc; stage = stage }) (k.slot s) ≡ cond here (record (k.slot s) { stage = stage }) (k.slot s)
    by_test true e =
        let inc : id.inc ≡ (k.slot s).inc = sym (IsClaimed-last (k.slot id.slot) id.inc claimed) ∙ ap (λ t. (k.slot t).inc) ((Decides-eqb id.slot s).0 e) in
        λ i. record { inc = inc i; stage = stage }
    by_test false e = refl

-- a Dead connection's slot is free at the next stage
pub freed : {S A R : Type 0} (m : Meaning S A R) (k : Machine S) (seat : ℕ) (id : ConnId) → stage_of k id ≡ Dead → at_stage k id Vacant ≡ after_act m k seat (Free id)
freed m k seat id e =
    same_machine (at_stage k id Vacant) (after_act m k seat (Free id)) (restaged k id Vacant (IsClaimed-is (stage_of k id) Dead e tt)) (λ key. refl)
