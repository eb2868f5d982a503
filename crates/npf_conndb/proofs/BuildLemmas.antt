-- What a pass knows of the notes of what it builds, once it builds more or less, or holds a key.
use Rattle.std.proofs.Common.{◌≡◌, ◌≢◌, ◌⊎◌, ℕ, Bool, true, false, true≢false, not, eqb, List, [], ◌∷◌, refl, sym, ◌∙◌, subst, ⊎_elim, inl, inr}
use Rattle.std.{specs.List.Contains, proofs.lemmas.{List.Elements.{Contains-append_left, Contains-push}, Bool.Decides.{Decides-eqb, not_from_Decides}}}
use Rattle.npf_types.specs.declared.key.{Key.Key, Way.Way}
use Rattle.npf_shelf.proofs.ListLemmas.{Contains-filter_parts}
use Rattle.npf_core.specs.declared.{act.Act.TheVariants.Hold, conn_id.ConnId.ConnId, held.Held.Held, reply.Reply.TheVariants.ToHold}
use Rattle.npf_core.specs.{History.{IsPrefix, state_of}, KeyLaw.Gives, Machine.Holds, Meaning.Meaning, NextState.{is_id, is_way}}
use Rattle.npf_core.proofs.{EqualityLemmas.{is_id-Decides, is_way-Decides}, KeyLemmas.keeps_keys}
use Rattle.npf_connections.specs.{Adding.AddsOwn, Answered.without, Entries.{entry_of, hold_entries}, Pass.IsPass}
use Rattle.npf_seats.proofs.PrefixLemmas.{cons_cases}
use Rattle.npf_cells_words.specs.Layout.{note_field}
use Rattle.npf_cells_lives.specs.{declared.pools.Note.Note, Notes.{notes_but, notes_elsewhere}}
use Rattle.npf_cells_rule.specs.{declared.view.CellView.CellView, Passes.cell_pass}
use Rattle.npf_cells_turns.specs.EndKinds.{HasBareNotes}
use Rattle.npf_conndb.proofs.NoteLemmas.{bare_before, notes_stay, one_built, still_noted, noted_elsewhere, way_notes}

-- what stands beside an identity is another
not_without : (id other : ConnId) (ids : List ConnId) → Contains (without id ids) other → Contains ids other × ¬ (other ≡ id)
not_without id other ids c =
    let kept = Contains-filter_parts (λ (x : ConnId). not (is_id x id)) ids other c in
    (kept.0, λ same. by_test (is_id other id) ((is_id-Decides other id).1 same) kept.1)
  where
    by_test : (b : Bool) → b ≡ true → not b ≡ true → ⊥
    by_test true e n = true≢false (sym n)
    by_test false e n = true≢false (sym e)

module _ {S A R : Type 0} (m : Meaning S A R) (old now : CellView S A R) (was : IsPass m (cell_pass old)) (is : IsPass m (cell_pass now))
    (on : IsPrefix old.seats.history now.seats.history) (noted : (id : ConnId) → Contains old.pools.builds id → HasBareNotes m old id) where
  -- one fewer
  pub noted_less : (id : ConnId) → Contains old.pools.builds id → now.pools.builds ≡ without id old.pools.builds →
      now.pools.notes ≡ notes_elsewhere id.slot old.pools.notes → (other : ConnId) → Contains now.pools.builds other → HasBareNotes m now other
  noted_less id built builds notes other after =
      let left = not_without id other old.pools.builds (subst (λ ids. Contains ids other) builds after) in
      notes_stay m old now was is on other left.0 after
      (λ note there c. subst (λ (xs : List Note). Contains xs note) (sym notes)
      (noted_elsewhere id.slot old.pools.notes note
      (λ same. left.1 (one_built (state_of m old.seats.history) old.seats.number id other (was.building id built) (was.building other left.0) (sym there ∙ same))) c))
      (noted other left.0)

  -- one more, of which all notes are 0
  pub noted_more : (id : ConnId) → now.pools.builds ≡ id ∷ old.pools.builds → ((way : Way) → Contains now.pools.notes (record { slot = id.slot; field = note_field way; value = 0 })) →
      ((note : Note) → note.slot ≢ id.slot → Contains old.pools.notes note → Contains now.pools.notes note) →
      (other : ConnId) → Contains now.pools.builds other → HasBareNotes m now other
  noted_more id builds zero rest other after = ⊎_elim
      (λ (same : id ≡ other). subst (λ (x : ConnId). HasBareNotes m now x) same (λ way none. zero way))
      (λ (before : Contains old.pools.builds other). ⊎_elim
      (λ (there : other.slot ≡ id.slot).
      let mine = is.building id (subst (λ ids. Contains ids id) (sym builds) (first id old.pools.builds)) in
      subst (λ (x : ConnId). HasBareNotes m now x) (sym (one_built (state_of m now.seats.history) now.seats.number id other mine (is.building other after) there)) (λ way none. zero way))
      (λ (apart : other.slot ≢ id.slot). notes_stay m old now was is on other before after (λ note there c. rest note (λ same. apart (sym there ∙ same)) c) (noted other before))
      (same_slot other.slot id.slot))
      (cons_cases id other old.pools.builds (subst (λ ids. Contains ids other) builds after))
    where
      first : (x : ConnId) (xs : List ConnId) → Contains (x ∷ xs) x
      first x xs = Contains-append_left (x ∷ []) xs x (Contains-push [] x)

      same_slot : (a b : ℕ) → (a ≡ b) ⊎ (a ≢ b)
      same_slot a b = by_test (eqb a b) refl
        where
          by_test : (t : Bool) → eqb a b ≡ t → (a ≡ b) ⊎ (a ≢ b)
          by_test true e = inl ((Decides-eqb a b).0 e)
          by_test false e = inr (not_from_Decides _ (Decides-eqb a b) e)

  -- as many, of which one may hold a key more, whose note is forgotten
  module _ (id : ConnId) (key : Key) (way : Way) (builds : now.pools.builds ≡ old.pools.builds) where
    same_builds : (other : ConnId) → Contains now.pools.builds other → Contains old.pools.builds other
    same_builds other c = subst (λ ids. Contains ids other) builds c

    pub noted_same : now.pools.notes ≡ old.pools.notes → (other : ConnId) → Contains now.pools.builds other → HasBareNotes m now other
    noted_same notes other after = notes_stay m old now was is on other (same_builds other after) after
        (λ note there c. subst (λ (xs : List Note). Contains xs note) (sym notes) c) (noted other (same_builds other after))

    -- who was given the key holds it
    gave : AddsOwn (cell_pass old) now.seats.history (hold_entries (cell_pass old) id key way Held.Done) → Contains now.pools.builds id → Holds (state_of m now.seats.history) id way key
    gave adds built =
        let entry = entry_of (cell_pass old) (Hold id key way) (ToHold Held.Done) in
        let end = adds.ends [] entry refl in
        let given : Gives now.seats.history key (record { id = id; way = way }) = record { earlier = end.0; entry = entry; later = []; split = end.1; act = refl; done = refl } in
        keeps_keys m now.seats.about now.seats.history key (record { id = id; way = way }) is.legal given (rw (is.building id built) tt)

    pub noted_held : Contains old.pools.builds id → AddsOwn (cell_pass old) now.seats.history (hold_entries (cell_pass old) id key way Held.Done) →
        now.pools.notes ≡ notes_but id.slot (note_field way) old.pools.notes → (other : ConnId) → Contains now.pools.builds other → HasBareNotes m now other
    noted_held built adds notes other after w none = ⊎_elim
        (λ (same : w ≡ way). ⊎_elim
        (λ (one : other ≡ id). absurd (none key (subst (λ (x : ConnId). Holds (state_of m now.seats.history) x w key) (sym one)
        (subst (λ (v : Way). Holds (state_of m now.seats.history) id v key) (sym same) (gave adds (subst (λ ids. Contains ids id) (sym builds) built))))))
        (λ (apart : ¬ (other ≡ id)).
        known (inl (λ there. apart (one_built (state_of m old.seats.history) old.seats.number id other (was.building id built) (was.building other (same_builds other after)) there))))
        (same_id other id))
        (λ (apart : w ≢ way). known (inr (way_notes w way apart)))
        (same_way w way)
      where
        known : (other.slot ≢ id.slot) ⊎ (note_field w ≢ note_field way) → Contains now.pools.notes (record { slot = other.slot; field = note_field w; value = 0 })
        known apart = subst (λ (xs : List Note). Contains xs (record { slot = other.slot; field = note_field w; value = 0 })) (sym notes)
            (still_noted id.slot (note_field way) old.pools.notes (record { slot = other.slot; field = note_field w; value = 0 }) apart
            (noted other (same_builds other after) w (bare_before m (cell_pass old) (cell_pass now) was is on other (same_builds other after) after w none)))

        same_id : (a b : ConnId) → (a ≡ b) ⊎ (¬ (a ≡ b))
        same_id a b = by_test (is_id a b) refl
          where
            by_test : (t : Bool) → is_id a b ≡ t → (a ≡ b) ⊎ (¬ (a ≡ b))
            by_test true e = inl ((is_id-Decides a b).0 e)
            by_test false e = inr (not_from_Decides _ (is_id-Decides a b) e)

        same_way : (a b : Way) → (a ≡ b) ⊎ (a ≢ b)
        same_way a b = by_test (is_way a b) refl
          where
            by_test : (t : Bool) → is_way a b ≡ t → (a ≡ b) ⊎ (a ≢ b)
            by_test true e = inl ((is_way-Decides a b).0 e)
            by_test false e = inr (not_from_Decides _ (is_way-Decides a b) e)
