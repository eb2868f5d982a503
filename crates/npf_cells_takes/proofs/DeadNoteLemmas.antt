-- A store in the first note of a slot whose connection is Dead and holds no key keeps the rule, where the part on deaths holds after it.
use Rattle.std.specs.List.{Contains}
use Rattle.std.proofs.Common.{◌≡◌, ◌≢◌, ℕ, ◌+◌, ◌<◌, ◌≤◌, Some, List, [], ◌∷◌, set, length, slice_index, refl, sym, ap, ◌∙◌, subst, ⊎_elim, inl, arith, length-set}
use Rattle.std.proofs.lemmas.List.{get_or-set_same, get_or-set_other}
use mathlib.Core.Option.{some}
use lib.ListN.{get_elem?}
use Rattle.atomic_table.{specs.Table.{State, Me, stepped, keeps}, proofs.Lists.at_set}
use Rattle.npf_types.specs.declared.key.{Key.Key, Way.{Way, TheVariants.Forward}}
use Rattle.npf_core.specs.{declared.{conn_id.ConnId.ConnId, found.Found.Found, stage.Stage.TheVariants.{Building, Dead}}, History.state_of}
use Rattle.npf_core.{specs.{Machine.{Machine, HoldsSome, stage_of}, Meaning.Meaning}, proofs.EqualityLemmas.same_conn_id}
use Rattle.npf_paths.specs.declared.cell.Cell.TheVariants.{Leaf}
use Rattle.npf_cells_words.specs.declared.layout.{Layout.Layout, Pool.{Pool, TheVariants.{Slots, Nodes}}}
use Rattle.npf_cells_words.specs.Layout.{turn_field, phase_field, inc_field, parent_field, notes_field, note_field, key_field, field_at, epoch_word}
use Rattle.npf_cells_words.{specs.Places.{lock_at, place_at}, proofs.WordLemmas.{field_behind, field_reach, key_short, not_slot, slot_apart}}
use Rattle.npf_seats.{specs.Sums.occurs, proofs.SumLemmas.one_of_sum}
use Rattle.npf_cells_leaves.{specs.Trie.{key_word, trie_words}, proofs.TrieLemmas.{KeepsTrie, cell_kept, knows_same, trie_same}}
use Rattle.npf_cells_lives.specs.{declared.{pools.PoolSide.PoolSide, turn.{Said.Said, Turn.Turn}}, Conns.{Conns, IsBuiltIn}}
use Rattle.npf_cells_lives.specs.Deaths.{IsKeyless, is_dead, has_epoch, first_note, slots_named, killed_in, last_id, unreclaimed, Deaths}
use Rattle.npf_cells_lives.specs.{Notes.{note_word, IsFirm, FitsNote, Notes}, Stored.{IsOwnField, StoredWords}, Turns.{stage_phase, Running, Turns}}
use Rattle.npf_cells_lives.proofs.{ConnLemmas.{building_at, builds-kept, unstored-set, conns-same}, DeathLemmas.{RestsNoMore, dead_at, slot_named}}
use Rattle.npf_cells_lives.proofs.{FreedLemmas.{gone_in, freed_stays}, LockLemmas.{locks-same, holders-set}}
use Rattle.npf_cells_lives.proofs.{NoteLemmas.{ahead_fits, note_stays, nobody_before, firm_on}, StoredLemmas.{own_same, stored_kept, stored-set}}
use Rattle.npf_cells_lives.proofs.TurnLemmas.{turns-kept}
use Rattle.npf_cells_rule.specs.{declared.view.CellView.CellView, Cells.IsCells, Views.{lock_side, pool_side, trie_side, turn_side, death_side}}
use Rattle.npf_cells_rule.proofs.{Frames.{alone_still, private_step}, MarkFrames.{marks_on, meets_same, words_slot}}
use Rattle.npf_cells_takes.proofs.NoteKeepLemmas.{other_note, note_cases, holds_last, leaf_held, was_on}

module _ {S A R : Type 0} (m : Meaning S A R) (digest : Key → ℕ) (layout : Layout) (s : State (Running S) (CellView S A R)) (id : ℕ)
    (me : Me (Running S) (CellView S A R)) (kept : IsCells m digest layout s) (at : get_elem? s.views id ≡ some me.0) where
  abbrev k : Machine S
  k = state_of m kept.log

  module _ (slot value : ℕ) (within : slot < layout.slots) (conn : ConnId) (there : conn.slot ≡ slot) (dead : stage_of k conn ≡ Dead) (bare : IsKeyless k conn) where
    abbrev note : ℕ
    note = field_at layout Slots slot notes_field

    abbrev pub ws : List ℕ
    ws = set s.words note value

    else' : (j : ℕ) → j ≢ note → slice_index ws j ≡ slice_index s.words j
    else' j ne = get_or-set_other s.words note j value 0 ne

    pub dead_there : ((k.slot slot).inc ≡ conn.inc) × ((k.slot slot).stage ≡ Dead)
    dead_there = subst (λ p. ((k.slot p).inc ≡ conn.inc) × ((k.slot p).stage ≡ Dead)) there (dead_at (k.slot conn.slot) conn.inc dead)

    pub dead_one : (p : ℕ) → p ≡ slot → is_dead (k.slot p).stage ≡ 1
    dead_one p e = ap (λ q. is_dead (k.slot q).stage) e ∙ ap is_dead dead_there.1

    -- nobody builds there
    nobody : (j : ℕ) (u : CellView S A R) → get_elem? s.views j ≡ some u → (pool : Pool) (place field : ℕ) → IsOwnField layout u.pools pool place field → field_at layout pool place field ≢ note
    nobody j u e Slots place field own same =
        let at_slot : place ≡ slot = (let short = own.3 in omega (arith, same, short)) in
        let built = own.0 in
        let stage = building_at (k.slot built.id.slot) built.id.inc j ((kept.connections.each j u e).building built.id built.built) in
        let no : Building j ≡ Dead = sym stage.1 ∙ (ap (λ p. (k.slot p).stage) (built.there ∙ at_slot) ∙ dead_there.1) in
        absurd cc
    nobody j u e Nodes place field own same = absurd (let low = own.1 in let short = own.2 in omega (arith, same, low, short))

    pub same_epoch : epoch_word s.words ≤ epoch_word ws
    same_epoch = let same = else' 0 (λ e. absurd (let far = field_behind layout Slots slot notes_field in omega (arith, e, far))) in omega (arith, same)

    keeps_trie : KeepsTrie layout.slots k k (trie_words layout s.words) (trie_words layout ws)
    keeps_trie = record {
      holder = λ key. refl;
      claimed = λ i c. c;
      dead = λ i e. e;
      cells = λ digits are level p on. cell_kept layout s.words ws p (λ inside. else' (place_at layout p) (λ e. slot_apart layout p slot notes_field inside (sym e)));
      parents = λ digits level p node are on is. else' (field_at layout Nodes node parent_field)
          (λ e. absurd (let in' = (kept.trie.nodes digits level p node are on is).exists in omega (arith, in', e)));
      keys = λ p way right. λ i. record {
        0 = key_same p way 0 (omega arith) i ∷ key_same p way 1 (omega arith) i ∷
            key_same p way 2 (omega arith) i ∷ key_same p way 3 (omega arith) i ∷ key_same p way 4 (omega arith) i ∷ [];
      };
      incs = λ p way right. else' (field_at layout Slots p inc_field) (λ e. absurd (omega (arith, e)));
    }
      where
        key_same : (p : ℕ) (way : Way) (place : ℕ) → place < 5 → key_word layout ws p way place ≡ key_word layout s.words p way place
        key_same p way place h = else' (field_at layout Slots p (key_field way + place)) (λ e. absurd (let near = key_short way place h in omega (arith, near, e)))

    pub note_else : (p : ℕ) → p ≢ slot → first_note layout ws p ≡ first_note layout s.words p
    note_else p ne = else' (field_at layout Slots p notes_field) (λ e. ne (omega (arith, e)))

    pub note_here : (p : ℕ) → p ≡ slot → first_note layout ws p ≡ value
    note_here p e = ap (first_note layout ws) e ∙ get_or-set_same s.words note value 0 (let reach = field_reach layout Slots slot notes_field within (omega arith) in
        let long = kept.connections.reach in omega (arith, reach, long))

    -- the connection is the slot's last, so no leaf of the slot is of a path, and nobody builds there
    pub conn_last : conn ≡ last_id k slot
    conn_last = same_conn_id conn (last_id k slot) (there, sym dead_there.0)

    none_holds : (way : Way) → HoldsSome k (last_id k slot) way → ⊥
    none_holds way some' = bare way some'.0 (subst (λ (i : ConnId). k.holder some'.0 ≡ Some (record { id = i; way = way })) (sym conn_last) some'.1)

    unbuilt : (j : ℕ) (u : CellView S A R) (i : ConnId) → get_elem? s.views j ≡ some u → Contains u.pools.builds i → i.slot ≡ slot → ⊥
    unbuilt j u i e built here =
        let stage = building_at (k.slot i.slot) i.inc j ((kept.connections.each j u e).building i built) in
        let no : Building j ≡ Dead = sym stage.1 ∙ (ap (λ p. (k.slot p).stage) here ∙ dead_there.1) in
        cc

    -- the pass has other dead connections
    module _ (pools : PoolSide) (nodes : pools.nodes ≡ me.0.pools.nodes) (back : pools.unfreed ≡ me.0.pools.unfreed) (builds : pools.builds ≡ me.0.pools.builds)
        (unstored : pools.unstored ≡ me.0.pools.unstored) (stored : pools.stored ≡ me.0.pools.stored) (notes : pools.notes ≡ me.0.pools.notes) where
      abbrev w : CellView S A R
      w = record me.0 { pools = pools }

      less : RestsNoMore k (death_side me.0) (death_side w)
      less = record { rests = λ i gone none rests. (rests, refl) }

      conns_stay : Conns pool_side m layout kept.log ws (set s.views id w)
      conns_stay = conns-same pool_side m layout kept.log s.words ws s.views (set s.views id w) kept.connections (length-set s.words note value)
          (λ p h. else' (field_at layout Slots p inc_field) (λ e. absurd (omega (arith, e))))
          (builds-kept pool_side k s.views id me.0 w at builds unstored kept.connections.each) (unstored-set pool_side s.views id me.0 w at unstored)

      stored_stay : StoredWords pool_side layout ws (set s.views id w)
      stored_stay = stored-set pool_side layout ws s.views id w
          (stored_kept layout s.words ws me.0.pools w.pools (kept.stored id me.0 at) stored (own_same layout me.0.pools w.pools nodes builds)
          (λ pool place field own. else' (field_at layout pool place field) (nobody id me.0 at pool place field own)))
          (λ j u ne e. stored_kept layout s.words ws u.pools u.pools (kept.stored j u e) refl (λ pool place field own. own)
          (λ pool place field own. else' (field_at layout pool place field) (nobody j u e pool place field own)))

      -- it killed nothing more and may have forgotten what it gave up of the slot's keys; as many have reclaimed each slot; nobody has killed the slot's
      -- connection, and what anybody was told of the note is not about an epoch
      module _ (kills : (i : ConnId) → Contains pools.kills i → Contains me.0.pools.kills i) (gave : (g : Found) → Contains me.0.pools.gave_up g → g.id.slot ≢ slot → Contains pools.gave_up g)
          (gone : (p : ℕ) → gone_in death_side (set s.views id w) p ≡ gone_in death_side s.views p) (nobodys : killed_in death_side (set s.views id w) slot ≡ 0)
          (untold : (j : ℕ) (u : CellView S A R) (turn : Turn S) (said : Said) → get_elem? s.views j ≡ some u → u.turn ≡ Some turn →
          turn.slot ≡ slot → turn.was.stage ≡ Dead → turn.said ≡ Some said → has_epoch said.value ≡ 1 → said.field ≡ notes_field → ⊥)
          (seated : 1 ≤ length me.0.seats.readers) where
        turns_stay : Turns turn_side layout (unreclaimed death_side (set s.views id w) k) ws s.homes (set s.views id w)
        turns_stay = turns-kept turn_side layout (unreclaimed death_side s.views k) (unreclaimed death_side (set s.views id w) k) s.words ws s.homes s.views id me.0 w kept.turns at refl (record {
          turn = λ p h. else' (field_at layout Slots p turn_field) (λ e. absurd (omega (arith, e)));
          phase = λ p h. else' (field_at layout Slots p phase_field) (λ e. absurd (omega (arith, e)));
          slots = λ p. freed_stays death_side s.views (set s.views id w) k k p (gone p) (inl refl);
        })

        else_note : (p : ℕ) (way : Way) → (p ≡ slot → way ≡ Forward → ⊥) → note_word layout ws p way ≡ note_word layout s.words p way
        else_note p way apart = other_note m digest layout s kept id me.0 at slot Forward value within seated p way apart

        -- what each pass had
        before : (j : ℕ) (u : CellView S A R) → get_elem? (set s.views id w) j ≡ some u →
            (y : CellView S A R) × (get_elem? s.views j ≡ some y) × (y.turn ≡ u.turn) × (y.pools.notes ≡ u.pools.notes) ×
            (y.pools.builds ≡ u.pools.builds) × ((i : ConnId) → Contains u.pools.kills i → Contains y.pools.kills i)
            × ((g : Found) → Contains y.pools.gave_up g → g.id.slot ≢ slot → Contains u.pools.gave_up g)
        before j u e = ⊎_elim
            (λ (x : (j ≡ id) × (w ≡ u)). (
              me.0,
              ap (get_elem? s.views) x.0 ∙ at,
              ap (λ (y : CellView S A R). y.turn) x.1,
              sym notes ∙ ap (λ (y : CellView S A R). y.pools.notes) x.1,
              sym builds ∙ ap (λ (y : CellView S A R). y.pools.builds) x.1,
              λ i c. kills i (subst (λ (y : CellView S A R). Contains y.pools.kills i) (sym x.1) c),
              λ g c ne. subst (λ (y : CellView S A R). Contains y.pools.gave_up g) x.1 (gave g c ne),
            ))
            (λ (x : (j ≢ id) × (get_elem? s.views j ≡ some u)). (u, x.1, refl, refl, refl, λ i c. c, λ g c ne. c))
            (at_set s.views id j w u e)

        unkilled : (j : ℕ) (u : CellView S A R) → get_elem? (set s.views id w) j ≡ some u → (i : ConnId) → Contains u.pools.kills i → i.slot ≢ slot
        unkilled j u e i c here =
            let one = one_of_sum (λ (y : CellView S A R). occurs slot (slots_named y.pools.kills)) (set s.views id w) j u e in
            let listed = subst (λ q. 1 ≤ occurs q (slots_named u.pools.kills)) here (slot_named i u.pools.kills c) in
            let none = nobodys in
            omega (arith, one, listed, none)

        told_so : (j : ℕ) (u : CellView S A R) (turn : Turn S) (said : Said) (way : Way) → get_elem? (set s.views id w) j ≡ some u →
            u.turn ≡ Some turn → turn.said ≡ Some said → IsFirm u.pools.kills turn said → said.field ≡ note_field way →
            note_word layout ws turn.slot way ≡ said.value
        told_so j u turn said way e has is firm field =
            let was = before j u e in
            ⊎_elim
            (λ (x : (turn.slot ≡ slot) × (way ≡ Forward)). absurd (⊎_elim
            (λ (mine : IsBuiltIn u.pools.kills turn.slot). unkilled j u e mine.id mine.built (mine.there ∙ x.0))
            (λ (epoch : (turn.was.stage ≡ Dead) × (has_epoch said.value ≡ 1)). untold j was.0 turn said was.1 (was.2 ∙ has) x.0 epoch.0 is epoch.1 (field ∙ ap note_field x.1))
            firm))
            (λ apart. else_note turn.slot way apart ∙ kept.notes.said j was.0 turn said way was.1 (was.2 ∙ has) is (firm_on was.0.pools.kills u.pools.kills turn turn said refl refl was.5 firm) field)
            (note_cases m digest layout s kept id me.0 at slot Forward value within seated turn.slot way)

        notes_after : Notes turn_side pool_side layout (trie_words layout ws).cell k ws (set s.views id w)
        notes_after = record {
          named = λ digits level p p' way are on is none.
              let on' = was_on m digest layout s kept id me.0 at slot Forward value within seated digits level p are on in
              let is' = sym (keeps_trie.cells digits are level p on') ∙ is in
              ⊎_elim
              (λ (e : (p' ≡ slot) × (way ≡ Forward)).
              absurd (none_holds Forward (leaf_held m digest layout s kept id me.0 at slot Forward value within seated digits level p are on' (is' ∙ (λ i. Leaf (e.0 i) (e.1 i))))))
              (λ apart. else_note p' way apart ∙ kept.notes.named digits level p p' way are on' is' (nobody_before turn_side s.views id me.0 w p' (note_field way) at (λ a. a) none))
              (note_cases m digest layout s kept id me.0 at slot Forward value within seated p' way);
          bare = λ p way h live none. ⊎_elim
              (λ (e : (p ≡ slot) × (way ≡ Forward)). absurd (let no : 2 ≡ 1 = sym (ap stage_phase dead_there.1) ∙ (ap (λ n. stage_phase (k.slot n).stage) (sym e.0) ∙ live) in cc))
              (λ apart. else_note p way apart ∙ kept.notes.bare p way h live none)
              (note_cases m digest layout s kept id me.0 at slot Forward value within seated p way);
          given = λ j u i way e c not none.
              let was = before j u e in
              let ne = unkilled j u e i c in
              else_note i.slot way (λ a b. ne a) ∙ kept.notes.given j was.0 i way was.1 (was.5 i c) (λ d. not (was.6 (record { id = i; way = way }) d ne)) none;
          said = told_so;
          ahead = λ j u turn ahead e has is.
              let was = before j u e in
              let fits = kept.notes.ahead j was.0 turn ahead was.1 (was.2 ∙ has) is in
              ahead_fits layout k k s.words ws turn.slot ahead fits
              (else_note turn.slot fits.way (λ a b. none_holds fits.way (holds_last m digest layout s kept id me.0 at slot Forward value within seated fits.id fits.way (fits.id_there ∙ a) fits.held)))
              (λ key found x. x);
          each = λ j u note e c.
              let was = before j u e in
              let fits = kept.notes.each j was.0 note was.1 (subst (λ ns. Contains ns note) (sym was.3) c) in
              subst (λ ids. FitsNote layout k ws ids note) was.4
              (note_stays layout k k s.words ws was.0.pools.builds was.0.pools.builds note
              (λ way is. else_note note.slot way (λ a b. unbuilt j was.0 fits.id was.1 fits.built (fits.there ∙ a))) (λ key i way a b d holds. holds) (λ i e' c'. c') fits);
        }

        pub dead_noted : Deaths death_side layout k ws (set s.views id w) → IsCells m digest layout (stepped s note value id me.1 w keeps)
        dead_noted deaths = private_step m digest layout s note value id me.1 me.0 w kept at (field_behind layout Slots slot notes_field) refl refl nodes back builds kills
            (alone_still me.0 w (kept.alone id me.0 at) seated refl (λ none. none))
            (trie_same trie_side digest layout kept.published k k s.words ws s.views id me.0 w kept.trie at (knows_same me.0.trie) keeps_trie)
            conns_stay
            stored_stay
            (locks-same lock_side layout s.words ws s.views (set s.views id w) kept.locks
            (λ lock h. else' (lock_at layout lock) (λ e. not_slot layout slot notes_field lock h (sym e))) (holders-set lock_side layout s.views id me.0 w at refl))
            turns_stay
            deaths
            notes_after
            (marks_on m digest layout s kept ws id me.0 w at (words_slot layout kept.published s.words slot notes_field value) (meets_same me.0.trie) back (λ _. refl) refl)
