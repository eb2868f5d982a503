-- What a pass knows of the notes of connections that it is building, as it goes on.
use Rattle.std.proofs.Common.{◌≡◌, ◌≢◌, ◌⊎◌, ℕ, Bool, true, false, ◌==◌, ◌&&◌, not, List, Some, refl, sym, ap, ◌∙◌, subst, inl, inr, arith}
use Rattle.std.{specs.List.Contains, proofs.{lemmas.Bool.Decides.Decides-eqb, Math.Bool.and-false}}
use Rattle.npf_types.specs.declared.key.Way.{Way, TheVariants.{Forward, Backward, Port}}
use Rattle.npf_shelf.proofs.ListLemmas.{Contains-filter_from}
use Rattle.npf_core.specs.declared.{conn_id.ConnId.ConnId, entry.Entry.Entry, stage.Stage.TheVariants.Building}
use Rattle.npf_core.specs.{History.{Legal, LegalFrom, state_of, state_from, IsPrefix}, Machine.{Machine, opening, stage_of, IsAlive, IsClaimed, HoldsNone}}
use Rattle.npf_core.{specs.Meaning.Meaning, proofs.{HistoryLemmas.{LegalFrom-rest, state_from-append}, KeyLemmas.stays_holder, LifeLemmas.IsClaimed-last}}
use Rattle.npf_connections.specs.Pass.{Pass, IsPass}
use Rattle.npf_cells_words.specs.Layout.{note_field}
use Rattle.npf_cells_lives.specs.{declared.pools.Note.Note, Notes.{is_note_of, notes_but, notes_elsewhere}}
use Rattle.npf_cells_rule.specs.{declared.view.CellView.CellView, Passes.cell_pass}
use Rattle.npf_cells_turns.specs.EndKinds.{HasBareNotes}

module _ {S A R : Type 0} (m : Meaning S A R) (old now : Pass (Entry S A R)) (was : IsPass m old) (is : IsPass m now)
    (on : IsPrefix old.history now.history) (id : ConnId) (before : Contains old.builds id) (after : Contains now.builds id) where
  legal : LegalFrom m now.slots (state_of m old.history) on.rest
  legal = LegalFrom-rest m now.slots opening old.history on.rest (subst (Legal m now.slots) on.goes_on is.legal)

  state : state_of m now.history ≡ state_from m (state_of m old.history) on.rest
  state = ap (state_of m) on.goes_on ∙ state_from-append m opening old.history on.rest

  alive : (k : Machine S) (seat : ℕ) → stage_of k id ≡ Building seat → IsAlive (stage_of k id)
  alive k seat e = rw e tt

  -- a connection that holds no key of a way now held none before
  pub bare_before : (way : Way) → HoldsNone (state_of m now.history) id way → HoldsNone (state_of m old.history) id way
  bare_before way none key held =
      none key (subst (λ (k : Machine S). k.holder key ≡ Some (record { id = id; way = way })) (sym state)
      (stays_holder m now.slots (state_of m old.history) on.rest key (record { id = id; way = way }) legal held (alive (state_of m old.history) old.number (was.building id before))
      (alive (state_from m (state_of m old.history) on.rest) now.number (subst (λ (k : Machine S). stage_of k id ≡ Building now.number) state (is.building id after)))))

-- so it has its notes still, where those of its slot are still known
pub notes_stay : {S A R : Type 0} (m : Meaning S A R) (old now : CellView S A R) → IsPass m (cell_pass old) → IsPass m (cell_pass now) →
    IsPrefix old.seats.history now.seats.history → (id : ConnId) → Contains old.pools.builds id → Contains now.pools.builds id →
    ((note : Note) → note.slot ≡ id.slot → Contains old.pools.notes note → Contains now.pools.notes note) → HasBareNotes m old id → HasBareNotes m now id
notes_stay m old now was is on id before after known bare way none =
    known (record { slot = id.slot; field = note_field way; value = 0 }) refl (bare way (bare_before m (cell_pass old) (cell_pass now) was is on id before after way none))

-- two connections of one slot that one pass is building are one
pub one_built : {S : Type 0} (k : Machine S) (seat : ℕ) (id other : ConnId) → stage_of k id ≡ Building seat → stage_of k other ≡ Building seat → other.slot ≡ id.slot → other ≡ id
one_built {S} k seat id other built other_built there =
    let mine = IsClaimed-last (k.slot id.slot) id.inc (claimed id built) in
    let theirs = IsClaimed-last (k.slot other.slot) other.inc (claimed other other_built) in
    let same : other.inc ≡ id.inc = sym theirs ∙ (ap (λ slot. (k.slot slot).inc) there ∙ mine) in
    λ i. record { slot = there i; inc = same i }
  where
    claimed : (x : ConnId) → stage_of k x ≡ Building seat → IsClaimed (stage_of k x)
    claimed x e = rw e tt

apart_test : (a b : ℕ) → a ≢ b → (a == b) ≡ false
apart_test a b apart = by_test (a == b) refl
  where
    by_test : (same : Bool) → (a == b) ≡ same → (a == b) ≡ false
    by_test true e = absurd (apart ((Decides-eqb a b).0 e))
    by_test false e = e

not_this : (slot field : ℕ) (note : Note) → (note.slot ≢ slot) ⊎ (note.field ≢ field) → is_note_of slot field note ≡ false
not_this slot field note (inl apart) = ap (λ b. b && (note.field == field)) (apart_test note.slot slot apart)
not_this slot field note (inr apart) = ap (λ b. (note.slot == slot) && b) (apart_test note.field field apart) ∙ and-false (note.slot == slot)

-- a note that is another stays where one is forgotten, and where those of another slot are
pub still_noted : (slot field : ℕ) (notes : List Note) (note : Note) → (note.slot ≢ slot) ⊎ (note.field ≢ field) → Contains notes note → Contains (notes_but slot field notes) note
still_noted slot field notes note apart c = Contains-filter_from (λ (x : Note). not (is_note_of slot field x)) notes note c (ap not (not_this slot field note apart))

pub noted_elsewhere : (slot : ℕ) (notes : List Note) (note : Note) → note.slot ≢ slot → Contains notes note → Contains (notes_elsewhere slot notes) note
noted_elsewhere slot notes note apart c = Contains-filter_from (λ (x : Note). not (x.slot == slot)) notes note c (ap not (apart_test note.slot slot apart))

-- two ways have two notes
pub way_notes : (way other : Way) → way ≢ other → note_field way ≢ note_field other
way_notes Forward Forward apart e = apart refl
way_notes Forward Backward apart e = omega (arith, e)
way_notes Forward Port apart e = omega (arith, e)
way_notes Backward Forward apart e = omega (arith, e)
way_notes Backward Backward apart e = apart refl
way_notes Backward Port apart e = omega (arith, e)
way_notes Port Forward apart e = omega (arith, e)
way_notes Port Backward apart e = omega (arith, e)
way_notes Port Port apart e = apart refl
