-- A connection that holds two keys, and whose note of the third way is 0, may be started or killed.
use Rattle.std.{proofs.Common.{◌≡◌, ◌==◌, false, not, refl, sym, ap, ◌∙◌, subst, List, [], ◌∷◌, None, arith}, specs.Prelude.{Bool, Contains, IsTrue}}
use Rattle.atomic_table.specs.Table.{Me}
use Rattle.npf_types.specs.declared.key.{Key.Key, Way.{Way, TheVariants.{Forward, Backward, Port}}}
use Rattle.npf_shelf.proofs.ListLemmas.{Contains-filter_from}
use Rattle.npf_core.specs.{declared.{conn_id.ConnId.ConnId, held.Held.Held}, History.state_of, Machine.HoldsNone, Meaning.Meaning}
use Rattle.npf_connections.{specs.{StayLaw.Holding, Ways.{HoldsThese, held_after}}, proofs.StayLemmas.{holding_keeps_bare, holding_keeps_ways}}
use Rattle.npf_cells_words.specs.{declared.layout.Layout.Layout, Layout.note_field}
use Rattle.npf_cells_pins.specs.declared.pin.EpochSide.{EpochSide}
use Rattle.npf_cells_lives.specs.{declared.pools.Note.Note, Notes.{is_note_of, notes_but}}
use Rattle.npf_cells_rule.specs.{declared.view.CellView.CellView, Passes.{IsProtected, cell_pass}}
use Rattle.npf_cells_takes.specs.PrivateKinds.{noted_in}
use Rattle.npf_pool_beginning.specs.Begins.{HasBegun}
use Rattle.npf_trie.specs.HoldKey.{CanHold, SettlesAnew}
use Rattle.npf_trie_tests.specs.Built.{IsBuilt}
use Rattle.npf_trie_tests.proofs.AnewLemmas.{held_adds, still_protected, keeps_builds, keeps_unstored, keeps_nodes, keeps_unfreed, keeps_locks, keeps_turn, keeps_seats}
use Rattle.npf_trie_tests.proofs.OpenLemmas.{bared, apart}

-- a connection that was begun holds no key
abbrev no_way : Way → Bool
no_way way = false

-- once its third note is 0, it may hold a key
pub can_hold_forward : {S A R F : Type 0} (m : Meaning S A R) (layout : Layout) (id : ConnId) (me noted : Me F (CellView S A R)) → noted ≡ bared id Port me → HasBegun m layout noted.0 id →
    me.0.pools.nodes ≡ [] → me.0.pools.unfreed ≡ [] → me.0.trie.locks ≡ [] → me.0.turn ≡ None → CanHold m layout noted.0 id Forward
can_hold_forward {S} {A} {R} {F} m layout id me noted is begun nodes unfreed locks turn = record {
  may = begun.may Forward;
  exists = begun.exists;
  stored = begun.stored;
  nodes = ap (λ (y : Me F (CellView S A R)). y.0.pools.nodes) is ∙ nodes;
  unfreed = ap (λ (y : Me F (CellView S A R)). y.0.pools.unfreed) is ∙ unfreed;
  locks = ap (λ (y : Me F (CellView S A R)). y.0.trie.locks) is ∙ locks;
  turnless = ap (λ (y : Me F (CellView S A R)). y.0.turn) is ∙ turn;
}

-- it is in the stay in which the connection was begun
pub protected_on : {S A R F : Type 0} (id : ConnId) (old : EpochSide) (me noted : Me F (CellView S A R)) →
    noted ≡ bared id Port me → me.0.epochs ≡ old → IsProtected old.pin → IsProtected noted.0.epochs.pin
protected_on {S} {A} {R} {F} id old me noted stores keeps protected =
    subst IsProtected (sym (ap (λ (y : Me F (CellView S A R)). y.0.epochs.pin) stores ∙ ap (λ (side : EpochSide). side.pin) keeps)) protected

module _ {S A R F : Type 0} (m : Meaning S A R) (layout : Layout) (id : ConnId) (forward : Key) (me noted first : Me F (CellView S A R))
    (stores : noted ≡ bared id Port me) (begun : HasBegun m layout noted.0 id) (protected : IsProtected noted.0.epochs.pin)
    (holds : SettlesAnew m layout id forward Forward Held.Done noted first) where
  holding : Holding m (cell_pass noted.0) (cell_pass first.0) id forward Forward Held.Done
  holding = record {
    before = begun.legal;
    after = holds.settles.legal (λ e. cc);
    builds = (begun.may Forward).built;
    none = (begun.may Forward).bare;
    slots = keeps_seats m layout id forward Forward noted first protected holds;
    adds = held_adds m layout id forward Forward noted first protected holds;
  }

  built : Contains first.0.pools.builds id
  built = subst (λ ids. Contains ids id) (sym (keeps_builds m layout id forward Forward noted first protected holds)) (begun.may Forward).built

  stored : ¬ Contains first.0.pools.unstored id.slot
  stored = subst (λ slots. ¬ Contains slots id.slot) (sym (keeps_unstored m layout id forward Forward noted first protected holds)) begun.stored

  bare : HoldsNone (state_of m first.0.seats.history) id Backward
  bare = (holding_keeps_bare m (cell_pass noted.0) (cell_pass first.0) id forward Forward Held.Done holding).others Backward (λ e. cc) (begun.may Backward).bare

  -- a second key may be held
  pub can_hold_backward : me.0.pools.nodes ≡ [] → me.0.pools.unfreed ≡ [] → me.0.trie.locks ≡ [] → me.0.turn ≡ None → CanHold m layout first.0 id Backward
  can_hold_backward nodes unfreed locks turn = record {
    may = record { built = built; bare = bare };
    exists = begun.exists;
    stored = stored;
    nodes = keeps_nodes m layout id forward Forward noted first protected holds ∙ (ap (λ (y : Me F (CellView S A R)). y.0.pools.nodes) stores ∙ nodes);
    unfreed = keeps_unfreed m layout id forward Forward noted first protected holds ∙ (ap (λ (y : Me F (CellView S A R)). y.0.pools.unfreed) stores ∙ unfreed);
    locks = keeps_locks m layout id forward Forward noted first protected holds ∙ (ap (λ (y : Me F (CellView S A R)). y.0.trie.locks) stores ∙ locks);
    turnless = keeps_turn m layout id forward Forward noted first protected holds ∙ (ap (λ (y : Me F (CellView S A R)). y.0.turn) stores ∙ turn);
  }

  module _ (backward : Key) (second : Me F (CellView S A R)) (holds_second : SettlesAnew m layout id backward Backward Held.Done first second) where
    protected_first : IsProtected first.0.epochs.pin
    protected_first = still_protected m layout id forward Forward noted first protected holds

    holding_second : Holding m (cell_pass first.0) (cell_pass second.0) id backward Backward Held.Done
    holding_second = record {
      before = holds.settles.legal (λ e. cc);
      after = holds_second.settles.legal (λ e. cc);
      builds = built;
      none = bare;
      slots = keeps_seats m layout id backward Backward first second protected_first holds_second;
      adds = held_adds m layout id backward Backward first second protected_first holds_second;
    }

    ways : HoldsThese (state_of m second.0.seats.history) id (held_after Held.Done Backward (held_after Held.Done Forward no_way))
    ways = holding_keeps_ways m (cell_pass first.0) (cell_pass second.0) id backward Backward Held.Done holding_second _
        (holding_keeps_ways m (cell_pass noted.0) (cell_pass first.0) id forward Forward Held.Done holding no_way
        (λ way. (λ some. absurd ((begun.may way).bare some.0 some.1), λ (h : IsTrue false). absurd cc)))

    abbrev port : Note
    port = record { slot = id.slot; field = note_field Port; value = 0 }

    left : (way : Way) (notes : List Note) → (note_field Port == note_field way) ≡ false → Contains notes port → Contains (notes_but id.slot (note_field way) notes) port
    left way notes other c = Contains-filter_from (λ n. not (is_note_of id.slot (note_field way) n)) notes port c (ap not (apart id.slot (note_field way) (note_field Port) other))

    noted_on : (way : Way) (key : Key) (before after : Me F (CellView S A R)) → SettlesAnew m layout id key way Held.Done before after →
        after.0.pools.notes ≡ notes_but id.slot (note_field way) before.0.pools.notes
    noted_on way key before after answers = answers.settles.noted ∙ ap (notes_but id.slot (note_field way)) answers.anew.noted

    port_noted : Contains second.0.pools.notes port
    port_noted = subst (λ notes. Contains notes port)
        (sym (noted_on Backward backward first second holds_second ∙ ap (notes_but id.slot (note_field Backward))
        (noted_on Forward forward noted first holds ∙ ap (λ (y : Me F (CellView S A R)). notes_but id.slot (note_field Forward) y.0.pools.notes) stores)))
        (left Backward _ refl (left Forward (bared id Port me).0.pools.notes refl (0, omega arith, refl)))

    notes : (way : Way) → HoldsNone (state_of m second.0.seats.history) id way → Contains second.0.pools.notes (record { slot = id.slot; field = note_field way; value = 0 })
    notes Forward none = absurd (let some = (ways Forward).1 refl in none some.0 some.1)
    notes Backward none = absurd (let some = (ways Backward).1 refl in none some.0 some.1)
    notes Port none = port_noted

    -- and then it holds both
    pub is_built : IsBuilt m layout second.0 id
    is_built = record {
      exists = begun.exists;
      built = subst (λ ids. Contains ids id) (sym (keeps_builds m layout id backward Backward first second protected_first holds_second)) built;
      stored = subst (λ slots. ¬ Contains slots id.slot) (sym (keeps_unstored m layout id backward Backward first second protected_first holds_second)) stored;
      notes = notes;
    }
