-- What a collection makes of a slot.
use Rattle.std.proofs.Common.{◌≡◌, ◌≢◌, ℕ, ◌+◌, ◌≤◌, ◌<◌, true, Option, Some, None, List, [], ◌∷◌, ◌++◌, length, append-nil, refl, sym, ap, ◌∙◌, subst, inr, arith}
use Rattle.atomic_table.specs.Table.{Me}
use Rattle.npf_types.specs.declared.key.Key.{Key}
use Rattle.npf_core.specs.declared.{act.Act.TheVariants.Free, conn_id.ConnId.ConnId, entry.Entry.Entry, reply.Reply.TheVariants.Nothing, slot.Slot.Slot}
use Rattle.npf_core.specs.{declared.stage.Stage.TheVariants.{Vacant, Dead}, History.state_of, Machine.Machine, Meaning.Meaning}
use Rattle.npf_core.proofs.HistoryLemmas.{state_of-append}
use Rattle.npf_connections.{specs.{Collecting.IsWorn, Pass.{IsPass, all_places}}, proofs.AddLemmas.adds_alone}
use Rattle.npf_cells_words.specs.{declared.layout.{Layout.Layout, Pool.TheVariants.Slots}, Layout.{notes_field, field_at}}
use Rattle.npf_cells_lives.specs.Turns.{Running}
use Rattle.npf_cells_rule.specs.{declared.view.CellView.CellView, DeathLaw.HasNoDeadOfItsOwn, Passes.cell_pass, Stood.StoodSo}
use Rattle.npf_cells_takes.proofs.FreeLemmas.{freed_here, freed_else}
use Rattle.npf_turn.specs.Reclaims.{IsLongLeft, HasFreedSlot, LeavesSlot, HasReclaimed}
use Rattle.npf_conndb.{specs.{Between.IsBetweenCalls, Frees.CollectsSlot}, proofs.{PassLemmas.{hands, goes_between}, SoleLemmas.{left_alive, early_alive}}}

module _ {S A R : Type 0} (m : Meaning S A R) (digest : Key →
    ℕ) (layout : Layout) (slot : ℕ) (old : Me (Running S) (CellView S A R)) (between : IsBetweenCalls m old.0) (legal : IsPass m (cell_pass old.0))
    (lives : old.0.seats.lives ≡ true) (settled : old.0.seats.theirs ≡ []) (within : slot < layout.slots) where
  abbrev k : Machine S
  k = state_of m old.0.seats.history

  hand : HasNoDeadOfItsOwn old.0
  hand = record { kills = between.let_go; reclaims = between.reclaimed; cleared = between.freed }

  -- nothing was added
  left_so : (now : Me (Running S) (CellView S A R)) → now ≡ (record old.0 { turn = None }, []) →
      (length old.0.seats.readers ≡ all_places → ¬ IsWorn (cell_pass old.0) → old.0.pools.dated + 2 ≤ old.0.epochs.loaded → (k.slot slot).stage ≢ Dead) → CollectsSlot m slot None old now
  left_so now is alive = rw is (record {
    there = λ id e. absurd cc;
    adds = record { adds = record { rest = []; goes_on = sym (append-nil old.0.seats.history); own = refl; listed = λ n c. refl }; ends = λ init last e. absurd (none_ends init last e) };
    same = λ e. refl;
    stays = record {
      goes = record { view = refl; epoch = omega arith };
      between = goes_between m old.0 (record old.0 { turn = None }) (λ i. (
        old.0.epochs.pin,
        old.0.trie.locks,
        sym between.turnless i,
        old.0.pools.nodes,
        old.0.pools.unstored,
        old.0.pools.kills,
        old.0.pools.gave_up,
        old.0.pools.reclaims,
        old.0.pools.cleared,
        old.0.pools.unfreed,
      )) refl refl legal legal
          (record { rest = []; goes_on = sym (append-nil old.0.seats.history) }) between;
      legal = legal;
      pin = refl;
    };
    loaded = refl;
    dated = refl;
    others = λ all p ne. refl;
    clean = alive;
  })
    where
      none_ends : {X : Type 0} (init : List X) (last : X) → [] ≡ init ++ last ∷ [] → ⊥
      none_ends [] last e = cc
      none_ends (x ∷ xs) last e = cc

  pub kept_so : (now : Me (Running S) (CellView S A R)) → now ≡ old → old.1 ≡ [] → (note : ℕ) → StoodSo m digest layout old.0 (field_at layout Slots slot notes_field) note →
      ¬ IsLongLeft note old.0.epochs.loaded → CollectsSlot m slot None old now
  kept_so now is empty note stood early = left_so now (is ∙ (λ i. (record old.0 { turn = between.turnless i }, empty i)))
      (λ all unworn later. early_alive m digest layout old.0 lives settled all hand between.turnless slot old.0.epochs.loaded within old.0.seats.about legal.legal
      (λ c. unworn (inr c)) later note stood early)

  pub left_for : (now : Me (Running S) (CellView S A R)) → LeavesSlot m digest layout slot old.0.epochs.loaded old now → CollectsSlot m slot None old now
  left_for now left = left_so now left.is (λ all unworn later.
      left_alive m digest layout old.0 lives settled all hand between.turnless slot old.0.epochs.loaded within old.0.seats.about legal.legal (λ c. unworn (inr c)) later left.why)

  -- the slot's connection was freed
  module _ (id : ConnId) (now : Me (Running S) (CellView S A R)) (freed : HasFreedSlot m slot id old now) where
    abbrev entry : Entry S A R
    entry = record { seat = old.0.seats.number; act = Free id; reply = Nothing }

    is_pass : IsPass m (cell_pass now.0)
    is_pass = freed.legal legal

    vacant : ((state_of m now.0.seats.history).slot slot).stage ≡ Vacant
    vacant =
        let end = freed.adds.ends [] entry refl in
        ap (λ h. ((state_of m h).slot slot).stage) end.1 ∙ (ap (λ (x : Machine S). (x.slot slot).stage) (state_of-append m end.0 entry)
        ∙ ap (λ (x : Slot S). x.stage) (freed_here m (state_of m end.0) old.0.seats.number id slot (sym freed.there)))

    others_stay : length old.0.seats.readers ≡ all_places → (p : ℕ) → p ≢ slot → (state_of m now.0.seats.history).slot p ≡ k.slot p
    others_stay all p ne =
        let whole = adds_alone m (cell_pass old.0) (cell_pass now.0) (entry ∷ []) is_pass (ap (λ (y : Me (Running S) (CellView S A R)). length y.0.seats.readers) freed.is ∙ all)
        (ap (λ (y : Me (Running S) (CellView S A R)). y.0.seats.number) freed.is) (ap (λ (y : Me (Running S) (CellView S A R)). y.0.seats.joined) freed.is) freed.adds.adds in
        ap (λ h. (state_of m h).slot p) whole ∙ (ap (λ (x : Machine S). x.slot p) (state_of-append m old.0.seats.history entry) ∙ freed_else m k old.0.seats.number id p (λ e. ne (e ∙ freed.there)))

    pub freed_so : CollectsSlot m slot (Some id) old now
    freed_so = record {
      there = λ i e. (let same : id ≡ i = cc in ap (λ (x : ConnId). x.slot) (sym same) ∙ freed.there);
      adds = freed.adds;
      same = λ e. absurd cc;
      stays = record {
        goes = record { view = shows; epoch = (let same = ap (λ (y : Me (Running S) (CellView S A R)). y.0.epochs.greatest) freed.is in omega (arith, same)) };
        between = goes_between m old.0 now.0 hands_same (ap (λ (y : Me (Running S) (CellView S A R)). y.0.pools.builds) freed.is)
            (ap (λ (y : Me (Running S) (CellView S A R)). y.0.pools.notes) freed.is) legal is_pass
            (record { rest = freed.adds.adds.rest; goes_on = freed.adds.adds.goes_on }) between;
        legal = is_pass;
        pin = ap (λ (y : Me (Running S) (CellView S A R)). y.0.epochs.pin) freed.is;
      };
      loaded = ap (λ (y : Me (Running S) (CellView S A R)). y.0.epochs.loaded) freed.is;
      dated = ap (λ (y : Me (Running S) (CellView S A R)). y.0.pools.dated) freed.is;
      others = others_stay;
      clean = λ all unworn later dead. absurd (let no : Vacant ≡ Dead = sym vacant ∙ dead in cc);
    }
      where
        shows : cell_pass now.0 ≡ record (cell_pass old.0) { history = now.0.seats.history; epoch = now.0.epochs.greatest }
        shows = λ i. record (cell_pass (freed.is i).0) { history = now.0.seats.history; epoch = now.0.epochs.greatest }

        hands_same : hands now.0 ≡ hands old.0
        hands_same = ap (λ (y : Me (Running S) (CellView S A R)). hands y.0) freed.is
            ∙ (λ i. (
              old.0.epochs.pin,
              old.0.trie.locks,
              sym between.turnless i,
              old.0.pools.nodes,
              old.0.pools.unstored,
              old.0.pools.kills,
              old.0.pools.gave_up,
              old.0.pools.reclaims,
              old.0.pools.cleared,
              old.0.pools.unfreed,
            ))

  -- as a try to free it ends
  pub reclaimed_so : (epoch : ℕ) → old.0.epochs.loaded ≡ epoch → (result : Option ConnId) (now : Me (Running S) (CellView S A R)) →
      HasReclaimed m digest layout slot epoch result old now → CollectsSlot m slot result old now
  reclaimed_so epoch is None now left = left_for now (subst (λ e. LeavesSlot m digest layout slot e old now) (sym is) left)
  reclaimed_so epoch is (Some id) now freed = freed_so id now freed
