-- What a collection has done of the slots that it visited.
use Rattle.std.specs.List.{Contains}
use Rattle.std.proofs.Common.{◌≡◌, ◌≢◌, ◌⊎◌, ℕ, ◌+◌, ◌≤◌, ◌<◌, Option, Some, None, List, [], ◌∷◌, ◌++◌, length, append-nil, refl, sym, ap, ◌∙◌, subst, ⊎_elim, inl, inr, arith}
use Rattle.std.proofs.lemmas.{Bool.{cases_eq}, List.{map-append, Elements.Contains-append_left}}
use Rattle.atomic_table.specs.Table.{Me}
use Rattle.npf_core.specs.declared.{act.Act.TheVariants.Free, conn_id.ConnId.ConnId, entry.Entry.Entry, reply.Reply.TheVariants.Nothing, slot.Slot.Slot}
use Rattle.npf_core.specs.{declared.stage.Stage.TheVariants.{Dead, Vacant}, History.{IsPrefix, Legal, state_of}, Meaning.Meaning}
use Rattle.npf_connections.specs.{Adding.{Adds, AddsOwn}, Collecting.{FreesAlone, HasNoDead, IsClean, IsWorn}, Entries.{entry_of, free_entries}}
use Rattle.npf_connections.{specs.{Pass.{Pass, IsPass, all_places}, Worn.{ClaimsLast, last_epoch}}, proofs.AddLemmas.{adds_alone, adds_more}}
use Rattle.npf_cells_pins.specs.declared.pin.Pin.TheVariants.{Idle}
use Rattle.npf_cells_lives.{specs.Turns.Running, proofs.DeathLemmas.dead_at}
use Rattle.npf_cells_rule.specs.{declared.view.CellView.CellView, Passes.{cell_pass, is_pinned}, Views.with_epochs}
use Rattle.npf_conndb.{specs.{Between.{IsBetweenCalls, StaysBetween}, Frees.{CollectsSlot, HasCollected, freed_ids}}, proofs.AddingLemmas.adds_one}
use Rattle.npf_pool.specs.Takes.{HasSeenMore}
use Rattle.npf_conndb.proofs.{PassLemmas.{hands, goes_between, goes_further, adds_nothing, adds_none, begins}, SeenLemmas.seen_stays, VisitLemmas.stays_more}
use Rattle.npf_conndb.proofs.WithinLemmas.{dead_within}

-- who isn't worn now wasn't before
was_unworn : {S A R : Type 0} (m : Meaning S A R) (old now : CellView S A R) → StaysBetween m old now →
    IsPrefix old.seats.history now.seats.history → ¬ IsWorn (cell_pass now) → ¬ IsWorn (cell_pass old)
was_unworn m old now stays on unworn worn = unworn (⊎_elim
    (λ (last : old.epochs.greatest ≡ last_epoch). inl (let goes = stays.goes.epoch in let most = stays.legal.most in omega (arith, last, goes, most)))
    (λ (claims : ClaimsLast old.seats.history). inr (record {
      id = claims.id;
      claimed = record {
        entry = claims.claimed.entry;
        stands = subst (λ h. Contains h claims.claimed.entry) (sym on.goes_on) (Contains-append_left old.seats.history on.rest claims.claimed.entry claims.claimed.stands);
        replied = claims.claimed.replied;
      };
      last = claims.last;
    }))
    worn)

module _ {S A R : Type 0} (m : Meaning S A R) (epoch : ℕ) (old : Me (Running S) (CellView S A R)) where
  -- nothing yet
  pub collected_none : (now : Me (Running S) (CellView S A R)) → IsPass m (cell_pass old.0) → IsBetweenCalls m old.0 → old.0.epochs.pin ≡ Idle →
      now ≡ with_epochs old now.0.epochs → now.0.epochs.pin ≡ Idle → now.0.epochs.loaded ≡ epoch → now.0.epochs.greatest ≡ epoch → old.0.epochs.greatest ≤ epoch → epoch ≤ last_epoch →
      (length old.0.seats.readers ≡ all_places → epoch ≢ last_epoch → old.0.pools.dated + 2 ≤ epoch) → HasCollected m epoch (λ p. ⊥) old now
  collected_none now legal between out same idle loaded greatest goes most later = record {
    ids = [];
    adds = adds_none (cell_pass old.0) now.0.seats.history (adds_nothing (cell_pass old.0) now.0.seats.history history);
    stays = record {
      goes = record { view = shows ∙ (λ i. record (cell_pass old.0) { history = sym history i; epoch = now.0.epochs.greatest }); epoch = omega (arith, goes, greatest) };
      between = goes_between m old.0 now.0 hands_same (ap (λ (y : Me (Running S) (CellView S A R)). y.0.pools.builds) same)
          (ap (λ (y : Me (Running S) (CellView S A R)). y.0.pools.notes) same) legal is_pass
          (begins (cell_pass old.0) now.0.seats.history [] (adds_nothing (cell_pass old.0) now.0.seats.history history)) between;
      legal = is_pass;
      pin = idle ∙ sym out;
    };
    loaded = loaded;
    dated = ap (λ (y : Me (Running S) (CellView S A R)). y.0.pools.dated) same;
    later = λ all unworn. later all (λ e. unworn (inl (greatest ∙ e)));
    clean = λ all unworn p none. absurd none;
  }
    where
      history : now.0.seats.history ≡ old.0.seats.history
      history = ap (λ (y : Me (Running S) (CellView S A R)). y.0.seats.history) same

      shows : cell_pass now.0 ≡ record (cell_pass old.0) { epoch = now.0.epochs.greatest }
      shows = ap (λ (y : Me (Running S) (CellView S A R)). cell_pass y.0) same ∙ (λ i. record (cell_pass old.0) { entered = is_pinned ((idle ∙ sym out) i); epoch = now.0.epochs.greatest })

      is_pass : IsPass m (cell_pass now.0)
      is_pass = subst (IsPass m) (sym shows) (record {
        legal = legal.legal;
        stays = legal.stays;
        building = legal.building;
        unanswered = legal.unanswered;
        idle = legal.idle;
        alone = legal.alone;
        most = omega (arith, greatest, most);
      })

      hands_same : hands now.0 ≡ hands old.0
      hands_same = ap (λ (y : Me (Running S) (CellView S A R)). hands y.0) same ∙ (λ i. (
        (idle ∙ sym out) i,
        old.0.trie.locks,
        old.0.turn,
        old.0.pools.nodes,
        old.0.pools.unstored,
        old.0.pools.kills,
        old.0.pools.gave_up,
        old.0.pools.reclaims,
        old.0.pools.cleared,
        old.0.pools.unfreed,
      ))

  -- the pass has seen more, while nothing was freed
  module _ (Done : ℕ → Type 0) (now next : Me (Running S) (CellView S A R)) (so : HasCollected m epoch Done old now)
      (none : Adds (cell_pass old.0) now.0.seats.history []) (sees : HasSeenMore m now next) where
    seen : StaysBetween m now.0 next.0
    seen = seen_stays m now next sees so.stays.legal so.stays.between

    begun : cell_pass now.0 ≡ record (cell_pass old.0) { history = now.0.seats.history; epoch = now.0.epochs.greatest }
    begun = so.stays.goes.view

    pub sees_none : Adds (cell_pass old.0) next.0.seats.history []
    sees_none = adds_more (cell_pass old.0) (cell_pass now.0) next.0.seats.history [] []
        (ap (λ (p : Pass (Entry S A R)). p.number) begun) (ap (λ (p : Pass (Entry S A R)). p.joined) begun) none sees.adds

    before : ¬ IsWorn (cell_pass next.0) → ¬ IsWorn (cell_pass now.0)
    before = was_unworn m now.0 next.0 seen (begins (cell_pass now.0) next.0.seats.history [] sees.adds)

    -- who owns all reader places sees no more
    whole : length old.0.seats.readers ≡ all_places → next.0.seats.history ≡ now.0.seats.history
    whole all = adds_alone m (cell_pass now.0) (cell_pass next.0) [] seen.legal
        (ap (λ (y : Me (Running S) (CellView S A R)). length y.0.seats.readers) sees.is ∙ (ap (λ (p : Pass (Entry S A R)). p.places) begun ∙ all))
        (ap (λ (y : Me (Running S) (CellView S A R)). y.0.seats.number) sees.is) (ap (λ (y : Me (Running S) (CellView S A R)). y.0.seats.joined) sees.is) sees.adds ∙ append-nil now.0.seats.history

    pub collected_seen : HasCollected m epoch Done old next
    collected_seen = record {
      ids = [];
      adds = adds_none (cell_pass old.0) next.0.seats.history sees_none;
      stays = stays_more m 0 0 0 0 old.0 now.0 next.0 so.stays seen;
      loaded = ap (λ (y : Me (Running S) (CellView S A R)). y.0.epochs.loaded) sees.is ∙ so.loaded;
      dated = ap (λ (y : Me (Running S) (CellView S A R)). y.0.pools.dated) sees.is ∙ so.dated;
      later = λ all unworn. so.later all (before unworn);
      clean = λ all unworn p h dead. so.clean all (before unworn) p h (ap (λ hist. ((state_of m hist).slot p).stage) (sym (whole all)) ∙ dead);
    }

  -- more slots, in which nobody stands
  pub collected_vacant : (Done More : ℕ → Type 0) (now : Me (Running S) (CellView S A R)) → HasCollected m epoch Done old now →
      ((p : ℕ) → More p → Done p ⊎ (((state_of m now.0.seats.history).slot p).stage ≡ Vacant)) → HasCollected m epoch More old now
  collected_vacant Done More now so either = record {
    ids = so.ids;
    adds = so.adds;
    stays = so.stays;
    loaded = so.loaded;
    dated = so.dated;
    later = so.later;
    clean = λ all unworn p h. ⊎_elim (λ was. so.clean all unworn p was)
        (λ (vacant : ((state_of m now.0.seats.history).slot p).stage ≡ Vacant) dead. let no : Vacant ≡ Dead = sym vacant ∙ dead in cc) (either p h);
  }

  -- one slot more
  module _ (Done More : ℕ → Type 0) (slot : ℕ) (either : (p : ℕ) → More p → Done p ⊎ (p ≡ slot)) (freed : Option ConnId)
      (now next : Me (Running S) (CellView S A R)) (so : HasCollected m epoch Done old now) (more : CollectsSlot m slot freed now next) where
    shown : cell_pass now.0 ≡ record (cell_pass old.0) { history = now.0.seats.history; epoch = now.0.epochs.greatest }
    shown = so.stays.goes.view

    all_now : length old.0.seats.readers ≡ all_places → length now.0.seats.readers ≡ all_places
    all_now all = ap (λ (p : Pass (Entry S A R)). p.places) shown ∙ all

    still : ¬ IsWorn (cell_pass next.0) → ¬ IsWorn (cell_pass now.0)
    still = was_unworn m now.0 next.0 more.stays (record { rest = more.adds.adds.rest; goes_on = more.adds.adds.goes_on })

    clean_more : length old.0.seats.readers ≡ all_places → ¬ IsWorn (cell_pass next.0) → (p : ℕ) → More p → ((state_of m next.0.seats.history).slot p).stage ≢ Dead
    clean_more all unworn p h = ⊎_elim
        (λ (e : p ≡ slot). subst (λ q. ((state_of m next.0.seats.history).slot q).stage ≢ Dead) (sym e)
        (more.clean (all_now all) (still unworn) (let later = so.later all (still unworn) in let dated = so.dated in let loaded = so.loaded in omega (arith, later, dated, loaded))))
        (λ (ne : p ≢ slot) dead. so.clean all (still unworn) p (⊎_elim (λ was. was) (λ is. absurd (ne is)) (either p h))
        (ap (λ (x : Slot S). x.stage) (sym (more.others (all_now all) p ne)) ∙ dead))
        (cases_eq p slot)

    entries_same : (ids : List ConnId) → free_entries (cell_pass now.0) ids ≡ free_entries (cell_pass old.0) ids
    entries_same ids = ap (λ (p : Pass (Entry S A R)). free_entries p ids) shown

    adds_both : (freed : Option ConnId) → AddsOwn (cell_pass now.0) next.0.seats.history (free_entries (cell_pass now.0) (freed_ids freed)) →
        (freed ≡ None → next.0.seats.history ≡ now.0.seats.history) →
        (ids : List ConnId) × AddsOwn (cell_pass old.0) next.0.seats.history (free_entries (cell_pass old.0) ids)
    adds_both None adds same = (so.ids, subst (λ h. AddsOwn (cell_pass old.0) h (free_entries (cell_pass old.0) so.ids)) (sym (same refl)) so.adds)
    adds_both (Some id) adds same = (
      so.ids ++ id ∷ [],
      subst (AddsOwn (cell_pass old.0) next.0.seats.history) (sym (map-append (λ (i : ConnId). entry_of (cell_pass old.0) (Free i) Nothing) so.ids (id ∷ [])))
          (adds_one (cell_pass old.0) (cell_pass now.0) next.0.seats.history (free_entries (cell_pass old.0) so.ids) (entry_of (cell_pass old.0) (Free id) Nothing)
          (ap (λ (p : Pass (Entry S A R)). p.number) shown) (ap (λ (p : Pass (Entry S A R)). p.joined) shown) so.adds.adds
          (subst (AddsOwn (cell_pass now.0) next.0.seats.history) (entries_same (id ∷ [])) adds)),
    )

    pub collected_more : HasCollected m epoch More old next
    collected_more =
        let both = adds_both freed more.adds more.same in
        record {
          ids = both.0;
          adds = both.1;
          stays = record {
            goes = goes_further (cell_pass old.0) (cell_pass now.0) (cell_pass next.0) so.stays.goes more.stays.goes;
            between = more.stays.between;
            legal = more.stays.legal;
            pin = more.stays.pin ∙ so.stays.pin;
          };
          loaded = more.loaded ∙ so.loaded;
          dated = more.dated ∙ so.dated;
          later = λ all unworn. so.later all (still unworn);
          clean = clean_more;
        }

  -- each slot: no connection is Dead
  pub collected_all : (Done : ℕ → Type 0) (slots : ℕ) (now : Me (Running S) (CellView S A R)) → HasCollected m epoch Done old now → now.0.seats.about ≡ slots →
      ((p : ℕ) → p < slots → Done p) → IsClean m (cell_pass now.0)
  collected_all Done slots now so sized each all unworn id dead =
      let legal = subst (λ n. Legal m n now.0.seats.history) sized so.stays.legal.legal in
      let within = dead_within m slots now.0.seats.history id legal dead in
      so.clean (ap (λ (p : Pass (Entry S A R)). p.places) (sym so.stays.goes.view) ∙ all) unworn id.slot
      (each id.slot within) (dead_at ((state_of m now.0.seats.history).slot id.slot) id.inc dead).1

-- Once the slots are done the pass sees no more: what was clean stays so.
module _ {S A R : Type 0} (m : Meaning S A R) (old now : CellView S A R) (stays : StaysBetween m old now) (seats : now.seats ≡ old.seats) where
  history : now.seats.history ≡ old.seats.history
  history = ap (λ s. s.history) seats

  pub frees_still : (pass : Pass (Entry S A R)) → FreesAlone pass old.seats.history → FreesAlone pass now.seats.history
  frees_still pass frees = subst (FreesAlone pass) (sym history) frees

  pub clean_still : IsClean m (cell_pass old) → IsClean m (cell_pass now)
  clean_still clean all unworn = subst (λ h. HasNoDead (state_of m h)) (sym history)
      (clean (ap (λ s. length s.readers) (sym seats) ∙ all) (was_unworn m old now stays (record { rest = []; goes_on = history ∙ sym (append-nil old.seats.history) }) unworn))
