-- A connection that the pass has begun, whose notes of the ways without a key are 0, may be started once it holds its key.
use Rattle.std.proofs.Common.{◌≡◌, ◌≢◌, ℕ, ◌==◌, false, not, ◌&&◌, eq-eqb, Option, Some, None, List, [], ◌∷◌, refl, sym, ap, ◌∙◌, subst, inl, inr, arith}
use Rattle.std.{specs.Prelude.Contains, proofs.lemmas.List.Elements.Contains-append_right}
use Rattle.atomic_table.specs.Table.{Me}
use Rattle.npf_types.specs.declared.key.{Key.Key, Way.{Way, TheVariants.{Forward, Backward, Port}}}
use Rattle.npf_shelf.proofs.ListLemmas.{Contains-filter_from}
use Rattle.npf_core.specs.declared.{act.Act.TheVariants.Hold, conn_id.ConnId.ConnId, entry.Entry.Entry, found.Found.Found, held.Held.Held}
use Rattle.npf_core.specs.{declared.reply.Reply.TheVariants.ToHold, History.{Legal, after, state_of}, Machine.{Machine, HoldsNone, HoldsSome}, Meaning.Meaning}
use Rattle.npf_core.{specs.Replies.held_by, proofs.{EqualityLemmas.is_key-Decides, HistoryLemmas.{MayFollow-split, state_of-append}}}
use Rattle.npf_connections.specs.{Adding.AddsOwn, Entries.{entry_of, hold_entries}, Pass.Pass}
use Rattle.npf_cells_words.specs.{declared.layout.{Layout.Layout, Pool.TheVariants.Slots}, Layout.note_field}
use Rattle.npf_cells_lives.specs.{declared.pools.Note.Note, Notes.{is_note_of, notes_but}}
use Rattle.npf_cells_rule.specs.{declared.view.CellView.CellView, Passes.cell_pass}
use Rattle.npf_cells_takes.specs.PrivateKinds.{MayStore, noted_in, stored_in}
use Rattle.npf_cells_turns.specs.EndKinds.{HasBareNotes}
use Rattle.npf_pool_beginning.specs.Begins.{HasBegun}
use Rattle.npf_trie.specs.HoldKey.{CanHold, SettlesAnew, SettlesHold}

-- no holder was answered where the hold is done
free_before : (x : Option Found) → held_by x ≡ Held.Done → x ≡ None
free_before None e = refl
free_before (Some found) e = absurd cc

module _ {S A R : Type 0} (m : Meaning S A R) where
  -- a connection holds the key that it was given last
  done_holds : (pass : Pass (Entry S A R)) (slots : ℕ) (history : List (Entry S A R)) (id : ConnId) (key : Key) (way : Way) → Legal m slots history →
      AddsOwn pass history (hold_entries pass id key way Held.Done) → HoldsSome (state_of m history) id way
  done_holds pass slots history id key way legal adds =
      let entry : Entry S A R = entry_of pass (Hold id key way) (ToHold Held.Done) in
      let end = adds.ends [] entry refl in
      let k : Machine S = state_of m end.0 in
      let follows = MayFollow-split m slots end.0 [] entry (subst (Legal m slots) end.1 legal) in
      let free : k.holder key ≡ None = free_before (k.holder key) (let e : ToHold Held.Done ≡ ToHold (held_by (k.holder key)) = follows.replied in cc) in
      let holds : (after m k entry).holder key ≡ Some (record { id = id; way = way }) = rw ((is_key-Decides key key).1 refl, free) refl in
      (key, subst (λ h. (state_of m h).holder key ≡ Some (record { id = id; way = way })) (sym end.1) (ap (λ (n : Machine S). n.holder key) (state_of-append m end.0 entry) ∙ holds))

-- the note of a way that holds no key
abbrev bare : ConnId → Way → Note
bare id way = record { slot = id.slot; field = note_field way; value = 0 }

-- a note of another field of the slot
pub apart : (slot field field' : ℕ) → (field' == field) ≡ false → is_note_of slot field (record { slot = slot; field = field'; value = 0 }) ≡ false
apart slot field field' ne = λ i. eq-eqb slot slot refl i && ne i

module _ {S A R F : Type 0} (id : ConnId) where
  -- the pass after it stored 0 as a note, and as those of the ways that get no key
  abbrev pub bared : Way → Me F (CellView S A R) → Me F (CellView S A R)
  bared way me = noted_in id.slot (note_field way) 0 me

  abbrev pub both_bared : Me F (CellView S A R) → Me F (CellView S A R)
  both_bared me = bared Port (bared Backward me)

  pub backward_bared : (field : ℕ) (me next : Me F (CellView S A R)) → field ≡ note_field Backward → next ≡ stored_in Slots id.slot field 0 me → next ≡ bared Backward me
  backward_bared field me next at is = is ∙ ap (λ f. stored_in Slots id.slot f 0 me) at

  pub port_bared : (field : ℕ) (me next : Me F (CellView S A R)) → field ≡ note_field Port → next ≡ stored_in Slots id.slot field 0 me → next ≡ bared Port me
  port_bared field me next at is = is ∙ ap (λ f. stored_in Slots id.slot f 0 me) at

-- a connection that was begun holds no key, so each of its notes may be stored
pub may_bare : {S A R : Type 0} (m : Meaning S A R) (layout : Layout) (id : ConnId) (way : Way) (field : ℕ) (v : CellView S A R) →
    HasBegun m layout v id → field ≡ note_field way → MayStore m v Slots id.slot field 0
may_bare m layout id way field v begun is = inr (inr (inl (record { id = id; built = (begun.may way).built; there = refl; way = way; note = is; bare = (begun.may way).bare; low = omega arith })))

module _ {S A R F : Type 0} (m : Meaning S A R) (layout : Layout) (id : ConnId) where
  pub begun_on : (way : Way) (me next : Me F (CellView S A R)) → next ≡ bared id way me → HasBegun m layout me.0 id → HasBegun m layout next.0 id
  begun_on way me next is begun = subst (λ (y : Me F (CellView S A R)). HasBegun m layout y.0 id) (sym is) (record {
    exists = begun.exists;
    may = λ w. record { built = (begun.may w).built; bare = (begun.may w).bare };
    stored = begun.stored;
    legal = begun.legal;
  })

  -- it may hold a key then
  pub can_hold : (me now : Me F (CellView S A R)) → now ≡ both_bared id me → HasBegun m layout now.0 id → me.0.pools.nodes ≡ [] →
      me.0.pools.unfreed ≡ [] → me.0.trie.locks ≡ [] → me.0.turn ≡ None → CanHold m layout now.0 id Forward
  can_hold me now is begun nodes unfreed locks turn = record {
    may = begun.may Forward;
    exists = begun.exists;
    stored = begun.stored;
    nodes = ap (λ (y : Me F (CellView S A R)). y.0.pools.nodes) is ∙ nodes;
    unfreed = ap (λ (y : Me F (CellView S A R)). y.0.pools.unfreed) is ∙ unfreed;
    locks = ap (λ (y : Me F (CellView S A R)). y.0.trie.locks) is ∙ locks;
    turnless = ap (λ (y : Me F (CellView S A R)). y.0.turn) is ∙ turn;
  }

  -- once it holds a key Forward, its other notes are 0
  pub bare_notes : (key : Key) (me held now : Me F (CellView S A R)) → held ≡ both_bared id me → SettlesAnew m layout id key Forward Held.Done held now → HasBareNotes m now.0 id
  bare_notes key me held now is answers = by_way
    where
      settles : SettlesHold m layout id key Forward Held.Done answers.between now
      settles = answers.settles

      noted : answers.between.0.pools.notes ≡ (both_bared id me).0.pools.notes
      noted = answers.anew.noted ∙ ap (λ (y : Me F (CellView S A R)). y.0.pools.notes) is

      left : (note : Note) → Contains (both_bared id me).0.pools.notes note → is_note_of id.slot (note_field Forward) note ≡ false → Contains now.0.pools.notes note
      left note c other = subst (λ notes. Contains notes note) (sym (settles.noted ∙ ap (notes_but id.slot (note_field Forward)) noted))
          (Contains-filter_from (λ n. not (is_note_of id.slot (note_field Forward) n)) (both_bared id me).0.pools.notes note c (ap not other))

      by_way : (way : Way) → HoldsNone (state_of m now.0.seats.history) id way → Contains now.0.pools.notes (bare id way)
      by_way Forward none = absurd (let given = done_holds m (cell_pass answers.between.0) _ now.0.seats.history id key Forward (settles.legal (λ e. cc)).legal settles.adds in none given.0 given.1)
      by_way Backward none = left (bare id Backward)
          (Contains-append_right (bare id Port ∷ []) (notes_but id.slot (note_field Port) (bared id Backward me).0.pools.notes) (bare id Backward)
          (Contains-filter_from (λ n. not (is_note_of id.slot (note_field Port) n)) (bared id Backward me).0.pools.notes (bare id Backward) (
            0,
            omega arith,
            refl,
          ) (ap not (apart id.slot (note_field Port) (note_field Backward) refl))))
          (apart id.slot (note_field Forward) (note_field Backward) refl)
      by_way Port none = left (bare id Port) (0, omega arith, refl) (apart id.slot (note_field Forward) (note_field Port) refl)
