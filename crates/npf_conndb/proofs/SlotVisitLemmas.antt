-- What a collection has made of each slot so far.
use Rattle.std.proofs.Common.{◌≡◌, ◌≢◌, ◌⊎◌, ℕ, ◌≤◌, Option, Some, None, List, [], ◌∷◌, ◌++◌, refl, sym, ap, ◌∙◌, subst, ⊎_elim, arith}
use Rattle.std.proofs.lemmas.{Bool.{cases_eq}, List.{map-append, Elements.{Contains-append_left, Contains-append_right, Contains-push}}}
use Rattle.atomic_table.specs.Table.{Me}
use Rattle.npf_types.specs.declared.key.Key.{Key}
use Rattle.npf_core.specs.declared.{act.Act.TheVariants.Free, conn_id.ConnId.ConnId, reply.Reply.TheVariants.Nothing}
use Rattle.npf_core.specs.{declared.stage.Stage.TheVariants.Vacant, History.{IsPrefix, state_of}, Meaning.Meaning}
use Rattle.npf_core.proofs.HistoryLemmas.{IsPrefix-self, IsPrefix-trans}
use Rattle.npf_connections.{specs.{Adding.Adds, Entries.{entry_of, free_entries}}, proofs.AddLemmas.adds_more}
use Rattle.npf_cells_words.specs.{declared.layout.{Layout.Layout, Pool.TheVariants.Slots}, Layout.{notes_field, field_at}}
use Rattle.npf_cells_lives.specs.Turns.{Running}
use Rattle.npf_cells_rule.specs.{declared.view.CellView.CellView, Passes.cell_pass, Stood.StoodSo}
use Rattle.npf_turn.specs.Reclaims.{IsLongLeft, WhyLeft, HasReclaimed}
use Rattle.npf_conndb.specs.Frees.{freed_ids}
use Rattle.npf_conndb.specs.SlotVisit.{having_freed, was_vacant, was_noted, was_tried, IsOnTheWay, IsVisited, was_freed, was_left, VisitsSlots, HasVisited, TriesSlot}
use Rattle.npf_conndb.proofs.PassLemmas.{adds_nothing, begins}

module _ {S A R : Type 0} (m : Meaning S A R) (digest : Key → ℕ) (layout : Layout) where
  -- who is as it was freed nothing
  still : (old now : CellView S A R) → now ≡ old → now ≡ having_freed old old.epochs now
  still old now same = same ∙ (λ i. having_freed old old.epochs (sym same i))

  -- the try of a slot whose first note says that it isn't long since
  pub tried_early : (slot : ℕ) (old now : CellView S A R) → now ≡ old → (note : ℕ) → StoodSo m digest layout old (field_at layout Slots slot notes_field) note →
      ¬ IsLongLeft note old.epochs.loaded → TriesSlot m digest layout slot None old now
  tried_early slot old now same note stood early = record { is = still old now same; left = λ e. was_noted note stood early }

  -- and of one under its turn
  pub tried_so : (slot epoch : ℕ) (old : Me (Running S) (CellView S A R)) → old.0.turn ≡ None → old.0.epochs.loaded ≡ epoch →
      (freed : Option ConnId) (now : Me (Running S) (CellView S A R)) → HasReclaimed m digest layout slot epoch freed old now → TriesSlot m digest layout slot freed old.0 now.0
  tried_so slot epoch old turnless is None now left = record {
    is = still old.0 now.0 (ap (λ (y : Me (Running S) (CellView S A R)). y.0) left.is ∙ (λ i. record old.0 { turn = sym turnless i }));
    left = λ e. was_tried (subst (WhyLeft m digest layout old.0 slot) (sym is) left.why);
  }
  tried_so slot epoch old turnless is (Some id) now freed = record {
    is = ap (λ (y : Me (Running S) (CellView S A R)). y.0) freed.is ∙ (λ i. record (having_freed old.0 old.0.epochs now.0) { turn = sym turnless i });
    left = λ e. absurd cc;
  }

  module _ (old : CellView S A R) where
    -- nothing yet
    pub visited_none : (now : CellView S A R) → now ≡ record old { epochs = now.epochs } → old.epochs.greatest ≤ now.epochs.loaded →
        now.epochs.loaded ≤ now.epochs.greatest → HasVisited m digest layout (λ p. ⊥) old now
    visited_none now same from reached = record {
      visits = record {
        epochs = now.epochs;
        from = from;
        reached = reached;
        ids = [];
        adds = adds_nothing (cell_pass old) now.seats.history history;
        each = λ slot none. absurd none;
      };
      is = same ∙ (λ i. record old { seats = record old.seats { history = sym history i }; epochs = now.epochs; pools = record old.pools { found = sym found i } });
    }
      where
        history : now.seats.history ≡ old.seats.history
        history = ap (λ (v : CellView S A R). v.seats.history) same

        found : now.pools.found ≡ old.pools.found
        found = ap (λ (v : CellView S A R). v.pools.found) same

    -- the pass has seen more, and freed these meanwhile
    module _ (Done : ℕ → Type 0) (now next : CellView S A R) (so : HasVisited m digest layout Done old now) (goes : next ≡ having_freed now now.epochs next)
        (more : List ConnId) (adds : Adds (cell_pass now) next.seats.history (free_entries (cell_pass now) more)) where
      on : next ≡ having_freed old so.visits.epochs next
      on = goes ∙ ap (λ (v : CellView S A R). having_freed v v.epochs next) so.is

      reached_on : so.visits.epochs.loaded ≤ next.epochs.greatest
      reached_on =
          let reached = so.visits.reached in
          let was : now.epochs.greatest ≡ so.visits.epochs.greatest = ap (λ (v : CellView S A R). v.epochs.greatest) so.is in
          let is : next.epochs.greatest ≡ so.visits.epochs.greatest = ap (λ (v : CellView S A R). v.epochs.greatest) on in
          omega (arith, reached, was, is)

      adds_both : Adds (cell_pass old) next.seats.history (free_entries (cell_pass old) (so.visits.ids ++ more))
      adds_both = subst (Adds (cell_pass old) next.seats.history) (sym (map-append (λ (id : ConnId). entry_of (cell_pass old) (Free id) Nothing) so.visits.ids more))
          (adds_more (cell_pass old) (cell_pass now) next.seats.history (free_entries (cell_pass old) so.visits.ids) (free_entries (cell_pass old) more)
          (ap (λ (v : CellView S A R). v.seats.number) so.is) (ap (λ (v : CellView S A R). v.seats.joined) so.is)
          so.visits.adds (subst (Adds (cell_pass now) next.seats.history) (ap (λ (v : CellView S A R). free_entries (cell_pass v) more) so.is) adds))

      seen_on : IsPrefix now.seats.history next.seats.history
      seen_on = begins (cell_pass now) next.seats.history (free_entries (cell_pass now) more) adds

      still_visited : (slot : ℕ) → IsVisited m digest layout old now so.visits.epochs so.visits.ids slot → IsVisited m digest layout old next so.visits.epochs (so.visits.ids ++ more) slot
      still_visited slot (was_freed id c there) = was_freed id (Contains-append_left so.visits.ids more id c) there
      still_visited slot (was_left v way why) =
          was_left v (record {
            freed = way.freed;
            adds = way.adds;
            seen = IsPrefix-trans v.seats.history now.seats.history next.seats.history way.seen seen_on;
            is = way.is;
            turnless = way.turnless;
          }) why

      pub visited_seen : HasVisited m digest layout Done old next
      visited_seen = record {
        visits = record {
          epochs = so.visits.epochs;
          from = so.visits.from;
          reached = reached_on;
          ids = so.visits.ids ++ more;
          adds = adds_both;
          each = λ slot h. still_visited slot (so.visits.each slot h);
        };
        is = on;
      }

    -- as the pass is it is on its way
    here : (Done : ℕ → Type 0) (now next : CellView S A R) (so : HasVisited m digest layout Done old now) →
        old.turn ≡ None → IsPrefix now.seats.history next.seats.history → IsOnTheWay old next so.visits.epochs now
    here Done now next so turnless seen = record { freed = so.visits.ids; adds = so.visits.adds; seen = seen; is = so.is; turnless = ap (λ (v : CellView S A R). v.turn) so.is ∙ turnless }

    -- slots that nobody has claimed
    pub visited_vacant : (Done More : ℕ → Type 0) (now : CellView S A R) → HasVisited m digest layout Done old now → old.turn ≡ None →
        ((p : ℕ) → More p → Done p ⊎ (((state_of m now.seats.history).slot p).stage ≡ Vacant)) → HasVisited m digest layout More old now
    visited_vacant Done More now so turnless either = record {
      visits = record {
        epochs = so.visits.epochs;
        from = so.visits.from;
        reached = so.visits.reached;
        ids = so.visits.ids;
        adds = so.visits.adds;
        each = λ slot h. ⊎_elim (λ was. so.visits.each slot was)
            (λ (vacant : ((state_of m now.seats.history).slot slot).stage ≡ Vacant).
            was_left now (here Done now now so turnless (IsPrefix-self now.seats.history)) (was_vacant vacant)) (either slot h);
      };
      is = so.is;
    }

    -- one slot more
    module _ (Done More : ℕ → Type 0) (slot : ℕ) (either : (p : ℕ) → More p → Done p ⊎ (p ≡ slot)) (now next : CellView S A R)
        (so : HasVisited m digest layout Done old now) (turnless : old.turn ≡ None) where
      by_try : (freed : Option ConnId) → TriesSlot m digest layout slot freed now next → ((id : ConnId) → freed ≡ Some id → id.slot ≡ slot) → IsPrefix now.seats.history next.seats.history →
          IsVisited m digest layout old next so.visits.epochs (so.visits.ids ++ freed_ids freed) slot
      by_try None tried there seen = was_left now (here Done now next so turnless seen) (tried.left refl)
      by_try (Some id) tried there seen = was_freed id (Contains-append_right so.visits.ids (id ∷ []) id (Contains-append_left (id ∷ []) [] id (Contains-push [] id))) (there id refl)

      pub visited_more : (freed : Option ConnId) → TriesSlot m digest layout slot freed now next → ((id : ConnId) → freed ≡ Some id → id.slot ≡ slot) →
          Adds (cell_pass now) next.seats.history (free_entries (cell_pass now) (freed_ids freed)) → HasVisited m digest layout More old next
      visited_more freed tried there adds =
          let on' = on Done now next so tried.is (freed_ids freed) adds in
          record {
            visits = record {
              epochs = so.visits.epochs;
              from = so.visits.from;
              reached = reached_on Done now next so tried.is (freed_ids freed) adds;
              ids = so.visits.ids ++ freed_ids freed;
              adds = adds_both Done now next so tried.is (freed_ids freed) adds;
              each = λ p h. ⊎_elim
                  (λ (e : p ≡ slot). subst (IsVisited m digest layout old next so.visits.epochs (so.visits.ids ++ freed_ids freed))
                  (sym e) (by_try freed tried there (seen_on Done now next so tried.is (freed_ids freed) adds)))
                  (λ (ne : p ≢ slot). still_visited Done now next so tried.is (freed_ids freed) adds p (so.visits.each p (⊎_elim (λ was. was) (λ is. absurd (ne is)) (either p h))))
                  (cases_eq p slot);
            };
            is = on';
          }

    -- once the slots are done the pass sees no more
    pub visits_all : (Done All : ℕ → Type 0) (now next : CellView S A R) → ((p : ℕ) → All p → Done p) → HasVisited m digest layout Done old now →
        next.seats ≡ now.seats → now.epochs.greatest ≤ next.epochs.greatest → VisitsSlots m digest layout All old next
    visits_all Done All now next all so seats later = record {
      epochs = so.visits.epochs;
      from = so.visits.from;
      reached = (let reached = so.visits.reached in omega (arith, reached, later));
      ids = so.visits.ids;
      adds = subst (λ h. Adds (cell_pass old) h (free_entries (cell_pass old) so.visits.ids)) (sym history) so.visits.adds;
      each = λ slot h. stays_visited slot (so.visits.each slot (all slot h));
    }
      where
        history : next.seats.history ≡ now.seats.history
        history = ap (λ s. s.history) seats

        stays_visited : (slot : ℕ) → IsVisited m digest layout old now so.visits.epochs so.visits.ids slot → IsVisited m digest layout old next so.visits.epochs so.visits.ids slot
        stays_visited slot (was_freed id c there) = was_freed id c there
        stays_visited slot (was_left v way why) =
            was_left v (record { freed = way.freed; adds = way.adds; seen = subst (IsPrefix v.seats.history) (sym history) way.seen; is = way.is; turnless = way.turnless }) why
