-- Passes that hold keys.
use Rattle.std.{proofs.Common.{◌≡◌, ◌+◌, ◌≤◌, Bool, true, List, [], refl, sym, ap, ◌∙◌, subst, arith}, specs.List.Contains}
use Rattle.atomic_table.specs.Table.{Me}
use Rattle.npf_types.specs.declared.key.{Key.Key, Way.Way}
use Rattle.npf_core.specs.{declared.{conn_id.ConnId.ConnId, entry.Entry.Entry, held.Held.Held}, History.{IsPrefix, state_of}, Machine.HoldsNone}
use Rattle.npf_core.specs.Meaning.{Meaning}
use Rattle.npf_connections.specs.{Adding.AddsOwn, Answered.taken_ids, Entries.hold_entries, Pass.{Pass, IsPass}, StayLaw.Holding}
use Rattle.npf_seats.proofs.PrefixLemmas.{none_listed}
use Rattle.npf_cells_words.specs.declared.layout.Layout.{Layout}
use Rattle.npf_cells_rule.{specs.{declared.view.CellView.CellView, Passes.{IsProtected, cell_pass}}, proofs.PassLemmas.pinned_in}
use Rattle.npf_cells_turns.specs.EndKinds.{HasBareNotes}
use Rattle.npf_trie.specs.HoldKey.{SettlesHold, StaysAnew, noted_after}
use Rattle.npf_conndb.{specs.Between.IsBetweenCalls, proofs.{BuildLemmas.{noted_held, noted_same}, PassLemmas.begins}}

module _ {S A R F : Type 0} (m : Meaning S A R) (layout : Layout) (id : ConnId) (key : Key) (way : Way) (held : Held) (old mid now : Me F (CellView S A R))
    (anew : StaysAnew old mid) (so : SettlesHold m layout id key way held mid now) (entered : (cell_pass old.0).entered ≡ true) where
  -- what a pass shows in the stay in which the hold ends
  anew_shows : cell_pass mid.0 ≡ record (cell_pass old.0) { answered = mid.0.trie.answered; sweeps = mid.0.pools.sweeps; epoch = mid.0.epochs.greatest }
  anew_shows = ap (λ (y : Me F (CellView S A R)). cell_pass y.0) anew.is ∙ (λ i. shows ((pinned_in mid.0.epochs.pin anew.protected ∙ sym entered) i) (anew.history i))
    where
      shows : Bool → List (Entry S A R) → Pass (Entry S A R)
      shows pinned history = record (cell_pass old.0) { history = history; entered = pinned; answered = mid.0.trie.answered; sweeps = mid.0.pools.sweeps; epoch = mid.0.epochs.greatest }

  -- and after it
  pub held_shows : cell_pass now.0 ≡ record (cell_pass old.0) { history = now.0.seats.history; answered = taken_ids held; sweeps = now.0.pools.sweeps; epoch = mid.0.epochs.greatest }
  held_shows = ap (λ (y : Me F (CellView S A R)). cell_pass y.0) so.is ∙ (ap shows so.answered ∙ ap ends anew_shows)
    where
      shows : List ConnId → Pass (Entry S A R)
      shows ids = record (cell_pass mid.0) { history = now.0.seats.history; answered = ids; sweeps = now.0.pools.sweeps }

      ends : Pass (Entry S A R) → Pass (Entry S A R)
      ends p = record p { history = now.0.seats.history; answered = taken_ids held; sweeps = now.0.pools.sweeps }

  -- where no node was left it has seen no more, and is as before, but that what it was answered may be freed
  refused_shows : held ≡ Held.NoNode → cell_pass now.0 ≡ record (cell_pass old.0) { answered = []; sweeps = now.0.pools.sweeps; epoch = mid.0.epochs.greatest }
  refused_shows none = held_shows ∙ (ap shows (so.same none ∙ anew.history) ∙ ap answers (ap taken_ids none))
    where
      shows : List (Entry S A R) → Pass (Entry S A R)
      shows history = record (cell_pass old.0) { history = history; answered = taken_ids held; sweeps = now.0.pools.sweeps; epoch = mid.0.epochs.greatest }

      answers : List ConnId → Pass (Entry S A R)
      answers ids = record (cell_pass old.0) { answered = ids; sweeps = now.0.pools.sweeps; epoch = mid.0.epochs.greatest }

  refused_pass : held ≡ Held.NoNode → IsPass m (cell_pass old.0) → IsPass m (cell_pass now.0)
  refused_pass none pass = subst (IsPass m) (sym (refused_shows none)) (record {
    legal = pass.legal;
    stays = λ other listed. absurd (none_listed other listed);
    building = pass.building;
    unanswered = λ _. refl;
    idle = pass.idle;
    alone = pass.alone;
    most = anew.most pass.most;
  })

  by_answer : (result : Held) → held ≡ result → IsPass m (cell_pass old.0) → IsPass m (cell_pass now.0)
  by_answer Held.Done e pass = so.legal (λ none. absurd (let no = sym e ∙ none in cc))
  by_answer (Held.Taken found) e pass = so.legal (λ none. absurd (let no = sym e ∙ none in cc))
  by_answer Held.NoNode e pass = refused_pass e pass

  pub held_pass : IsPass m (cell_pass old.0) → IsPass m (cell_pass now.0)
  held_pass = by_answer held refl

  -- the entry is one of the pass, whatever its stay
  entries_same : (result : Held) → hold_entries (cell_pass mid.0) id key way result ≡ hold_entries (cell_pass old.0) id key way result
  entries_same Held.Done = ap (λ (p : Pass (Entry S A R)). hold_entries p id key way Held.Done) anew_shows
  entries_same (Held.Taken found) = ap (λ (p : Pass (Entry S A R)). hold_entries p id key way (Held.Taken found)) anew_shows
  entries_same Held.NoNode = refl

  pub held_adds : AddsOwn (cell_pass old.0) now.0.seats.history (hold_entries (cell_pass old.0) id key way held)
  held_adds =
      let mine = subst (AddsOwn (cell_pass mid.0) now.0.seats.history) (entries_same held) so.adds in
      let own = subst (λ (p : Pass (Entry S A R)). AddsOwn p now.0.seats.history (hold_entries (cell_pass old.0) id key way held)) anew_shows mine in
      record { adds = record { rest = own.adds.rest; goes_on = own.adds.goes_on; own = own.adds.own; listed = own.adds.listed }; ends = own.ends }

  -- it is a hold of the key
  pub holding : IsPass m (cell_pass old.0) → Contains old.0.pools.builds id → HoldsNone (state_of m old.0.seats.history) id way → Holding m (cell_pass old.0) (cell_pass now.0) id key way held
  holding pass builds none = record {
    before = pass;
    after = held_pass pass;
    builds = builds;
    none = none;
    slots = ap (λ (p : Pass (Entry S A R)). p.slots) held_shows;
    adds = held_adds;
  }

  -- sweeps are counted on, and once more where no node was left
  pub held_sweeps : old.0.pools.sweeps ≤ now.0.pools.sweeps
  held_sweeps = let first = anew.sweeps in let then = so.sweeps in omega (arith, first, then)

  pub held_swept : held ≡ Held.NoNode → 1 ≤ layout.nodes → old.0.pools.sweeps + 1 ≤ now.0.pools.sweeps
  held_swept none some = let first = anew.sweeps in let then = so.swept none some in omega (arith, first, then)

  -- it is between calls with what it had, and the note of a key that it holds now is forgotten
  pub held_between : IsPass m (cell_pass old.0) → Contains old.0.pools.builds id → IsBetweenCalls m old.0 → IsBetweenCalls m now.0
  held_between pass built between = record {
    protected = λ _. subst IsProtected (sym (ap (λ (y : Me F (CellView S A R)). y.0.epochs.pin) so.is)) anew.protected;
    unlocked = ap (λ (y : Me F (CellView S A R)). y.0.trie.locks) so.is ∙ (ap (λ (y : Me F (CellView S A R)). y.0.trie.locks) anew.is ∙ between.unlocked);
    turnless = ap (λ (y : Me F (CellView S A R)). y.0.turn) so.is ∙ (ap (λ (y : Me F (CellView S A R)). y.0.turn) anew.is ∙ between.turnless);
    nodeless = ap (λ (y : Me F (CellView S A R)). y.0.pools.nodes) so.is ∙ (ap (λ (y : Me F (CellView S A R)). y.0.pools.nodes) anew.is ∙ between.nodeless);
    stored = ap (λ (y : Me F (CellView S A R)). y.0.pools.unstored) so.is ∙ (ap (λ (y : Me F (CellView S A R)). y.0.pools.unstored) anew.is ∙ between.stored);
    noted = by_held held refl (so.noted ∙ ap (noted_after held id way) anew.noted);
    let_go = ap (λ (y : Me F (CellView S A R)). y.0.pools.kills) so.is ∙ (ap (λ (y : Me F (CellView S A R)). y.0.pools.kills) anew.is ∙ between.let_go);
    given_up = ap (λ (y : Me F (CellView S A R)). y.0.pools.gave_up) so.is ∙ (ap (λ (y : Me F (CellView S A R)). y.0.pools.gave_up) anew.is ∙ between.given_up);
    reclaimed = ap (λ (y : Me F (CellView S A R)). y.0.pools.reclaims) so.is ∙ (ap (λ (y : Me F (CellView S A R)). y.0.pools.reclaims) anew.is ∙ between.reclaimed);
    freed = ap (λ (y : Me F (CellView S A R)). y.0.pools.cleared) so.is ∙ (ap (λ (y : Me F (CellView S A R)). y.0.pools.cleared) anew.is ∙ between.freed);
    returned = ap (λ (y : Me F (CellView S A R)). y.0.pools.unfreed) so.is ∙ (ap (λ (y : Me F (CellView S A R)). y.0.pools.unfreed) anew.is ∙ between.returned);
  }
    where
      builds : now.0.pools.builds ≡ old.0.pools.builds
      builds = ap (λ (p : Pass (Entry S A R)). p.builds) held_shows

      on : IsPrefix old.0.seats.history now.0.seats.history
      on = begins (cell_pass old.0) now.0.seats.history (hold_entries (cell_pass old.0) id key way held) held_adds.adds

      by_held : (result : Held) → held ≡ result → now.0.pools.notes ≡ noted_after held id way old.0.pools.notes → (other : ConnId) → Contains now.0.pools.builds other → HasBareNotes m now.0 other
      by_held Held.Done e notes = noted_held m old.0 now.0 pass (held_pass pass) on between.noted id key way builds built
          (subst (λ h. AddsOwn (cell_pass old.0) now.0.seats.history (hold_entries (cell_pass old.0) id key way h)) e held_adds)
          (subst (λ h. now.0.pools.notes ≡ noted_after h id way old.0.pools.notes) e notes)
      by_held (Held.Taken found) e notes = noted_same m old.0 now.0 pass (held_pass pass) on between.noted id key way builds
          (subst (λ h. now.0.pools.notes ≡ noted_after h id way old.0.pools.notes) e notes)
      by_held Held.NoNode e notes = noted_same m old.0 now.0 pass (held_pass pass) on between.noted id key way builds (subst (λ h. now.0.pools.notes ≡ noted_after h id way old.0.pools.notes) e notes)
