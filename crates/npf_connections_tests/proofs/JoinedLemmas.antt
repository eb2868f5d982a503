-- What a pass that took others in has of theirs.
use Rattle.std.proofs.Common.{◌≡◌, ◌≢◌, ◌≤◌, ◌<◌, ◌-◌, ◌⊎◌, ℕ, List, [], ◌∷◌, ◌++◌, Option, Some, None, IfSome, refl, ap, sym, ◌∙◌, inl, inr, rules, arith}
use Rattle.std.proofs.{lemmas.List.Elements.{Contains-append_left, Contains-append_right}, Math.Nat.eq-or-lt_of_le}
use Rattle.npf_types.specs.declared.key.{Key.Key, Way.TheVariants.Forward}
use Rattle.npf_core.specs.declared.{act.Act.TheVariants.{Look, Hold}, conn_id.ConnId.ConnId, entry.Entry.Entry, found.Found.Found, held.Held.Held}
use Rattle.npf_core.{specs.{declared.reply.Reply.TheVariants.{ToLook, ToHold}, History.{by, IsPrefix}}, proofs.HistoryLemmas.by-append}
use Rattle.npf_connections.specs.{Adding.{Adds, AddsOwn}, Entries.{hold_entries, entry_of}, Joining.{IsSplit, IsJoined}, Pass.Pass, Said.{Said, Did, under}}
use Rattle.npf_connections_tests.specs.Joined.{TookInLook, HasHold}

-- what a pass whose number was unused did is all that stands under its number
alone_did : {S A R : Type 0} (old now : Pass (Entry S A R)) (said : List (Said S A R)) →
    Did old now said → by old.number old.history ≡ [] → by now.number now.history ≡ under now.number said
alone_did old now said d unused =
    ap (λ number. by number now.history) d.later.number
    ∙ (ap (by old.number) d.adds.goes_on
    ∙ (by-append old.number old.history d.adds.rest
    ∙ (ap (λ xs. xs ++ by old.number d.adds.rest) unused ∙ (d.adds.own ∙ ap (λ number. under number said) (sym d.later.number)))))

-- who takes in a pass that only looked has its look beside those that it took in before
takes_in_look : {S A R : Type 0} (old other now : Pass (Entry S A R)) (count : ℕ) (key : Key) (found : Option Found) →
    IsJoined old other now → by other.number other.history ≡ record { seat = other.number; act = Look count key; reply = ToLook found } ∷ [] →
    ((n : ℕ) → 1 ≤ n → n ≤ count - 1 → TookInLook old n key) → (n : ℕ) → 1 ≤ n → n ≤ count → TookInLook now n key
takes_in_look old other now count key found j looked earlier n some most = at_last (eq-or-lt_of_le most)
  where
    joined : now.joined ≡ other.number ∷ (other.joined ++ old.joined)
    joined = ap (λ (p : Pass _). p.joined) j.takes

    at_last : (n ≡ count) ⊎ (n < count) → TookInLook now n key
    at_last (inl e) = record {
      number = other.number;
      found = found;
      joined = rw joined (search rules);
      looked = j.others ∙ rw e looked;
    }
    at_last (inr less) =
        let before = earlier n some (omega arith) in
        record {
          number = before.number;
          found = before.found;
          joined = rw joined (Contains-append_right (other.number ∷ other.joined) old.joined before.number before.joined);
          looked = j.kept before.number before.joined ∙ before.looked;
        }

-- so it is with one that was split off and looked while the others were taken in
pub takes_in_looks : {S A R : Type 0} (first left given other before now : Pass (Entry S A R)) (count : ℕ) (key : Key) (found : Option Found) →
    IsSplit first left given → Did given other (record { act = Look count key; reply = ToLook found } ∷ []) → IsJoined before other now →
    ((n : ℕ) → 1 ≤ n → n ≤ count - 1 → TookInLook before n key) → (n : ℕ) → 1 ≤ n → n ≤ count → TookInLook now n key
takes_in_looks first left given other before now count key found s d j =
    let seen : given.history ≡ left.history = ap (λ (p : Pass _). p.history) s.gives in
    takes_in_look before other now count key found j (alone_did given other _ d (ap (by given.number) seen ∙ s.unused))

-- a history begins with what it was before a call
pub begins : {S A R : Type 0} (old : Pass (Entry S A R)) (new mine : List (Entry S A R)) → Adds old new mine → IsPrefix old.history new
begins old new mine adds = record { rest = adds.rest; goes_on = adds.goes_on }

-- a hold stands in the history
pub stands : {S A R : Type 0} (old : Pass (Entry S A R)) (new : List (Entry S A R)) (key : Key) (id : ConnId) (held : Held) →
    AddsOwn old new (hold_entries old id key Forward held) → held ≢ Held.NoNode → HasHold new key id held
stands old new key id Held.NoNode own some = absurd (some refl)
stands old new key id Held.Done own some =
    let e = own.ends [] (entry_of old (Hold id key Forward) (ToHold Held.Done)) refl in
    record { seat = old.number; stands = rw e.1 (Contains-append_right e.0 (_ ∷ []) _ (search rules)) }
stands old new key id (Held.Taken found) own some =
    let e = own.ends [] (entry_of old (Hold id key Forward) (ToHold (Held.Taken found))) refl in
    record { seat = old.number; stands = rw e.1 (Contains-append_right e.0 (_ ∷ []) _ (search rules)) }

-- and goes on to stand there
pub stands_on : {S A R : Type 0} (earlier history : List (Entry S A R)) (key : Key) (id : ConnId) (held : Held) →
    IsPrefix earlier history → HasHold earlier key id held → HasHold history key id held
stands_on earlier history key id held p h = record { seat = h.seat; stands = rw p.goes_on (Contains-append_left earlier p.rest _ h.stands) }

pub asked_on : {S A R : Type 0} (earlier history : List (Entry S A R)) (key : Key) (asked : Option (ConnId × Held)) → IsPrefix earlier history →
    IfSome asked (λ x. x.1 ≢ Held.NoNode → HasHold earlier key x.0 x.1) → IfSome asked (λ x. x.1 ≢ Held.NoNode → HasHold history key x.0 x.1)
asked_on earlier history key None p h = h
asked_on earlier history key (Some x) p h = λ some. stands_on earlier history key x.0 x.1 p (h some)
