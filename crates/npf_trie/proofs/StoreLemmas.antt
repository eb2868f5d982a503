-- What is stored of a word after a further store.
use Rattle.std.proofs.Common.{◌≡◌, ◌≢◌, ℕ, ◌+◌, ◌-◌, ◌<◌, ◌≤◌, ◌^◌, ◌&&◌, Bool, true, false, not, nat_lt, cond, eqb, eq-eqb, ne_eqb, Some, List, [], ◌∷◌, refl, sym, ap, ◌∙◌, subst, ⊎_elim, arith}
use Rattle.std.{specs.Prelude.{Contains, filter}, proofs.lemmas.Bool.{cases_eq, Decides.Decides-ltb}}
use Rattle.atomic_table.specs.Table.{Me}
use Rattle.npf_types.specs.declared.key.Way.{Way, TheVariants.{Forward, Backward, Port}}
use Rattle.npf_core.specs.{History.state_of, Machine.HoldsNone, Meaning.Meaning}
use Rattle.npf_paths.specs.{declared.{cell.Cell.Cell, place.Place.TheVariants.Node}, CellLaw.WordsSayCells, CellWords.{cell_of, cell_word}}
use Rattle.npf_cells_words.{proofs.WordLemmas.{key_short, note_late}, specs.declared.layout.{Layout.Layout, Pool.TheVariants.{Slots, Nodes}}}
use Rattle.npf_cells_lives.{specs.{declared.pools.{Note.Note, StoredWord.StoredWord}, Notes.{is_note_of, notes_but}}, proofs.DeathLemmas.low_note}
use Rattle.npf_cells_rule.specs.{declared.view.CellView.CellView, Views.with_pools}
use Rattle.npf_cells_words.specs.Layout.{parent_field, key_field, note_field, field_at}
use Rattle.npf_seats.specs.Sums.{others_than}
use Rattle.npf_cells_takes.specs.PrivateKinds.{MayStoreInSlot, storing, stored_in, with_phase, letting_go, is_epoch_note, noted_in}
use Rattle.npf_cells_holds.specs.PublishKinds.{IsParentStored, cell_stored, stored_cell}
use Rattle.npf_cells_lives.specs.{Deaths.has_epoch, Stored.stored_value}
use Rattle.npf_trie.specs.Stores.{MayStoreKey, LiesOutside, KeepsNodes, KeepsOutside}

-- the last store is what is known of its word, and leaves the others
pub stored_here : (layout : Layout) (s : StoredWord) (rest : List StoredWord) (word : ℕ) → field_at layout s.pool s.place s.field ≡ word → stored_value layout (s ∷ rest) word ≡ Some s.value
stored_here layout s rest word there = ap (λ b. cond b (Some s.value) (stored_value layout rest word)) (eq-eqb _ word there)

pub stored_before : (layout : Layout) (s : StoredWord) (rest : List StoredWord) (word : ℕ) →
    field_at layout s.pool s.place s.field ≢ word → stored_value layout (s ∷ rest) word ≡ stored_value layout rest word
stored_before layout s rest word apart = ap (λ b. cond b (Some s.value) (stored_value layout rest word)) (ne_eqb _ word apart)

-- a field of one way's key is none of another's
same_way : (way way' : Way) (word : ℕ) → word < 5 → key_field way' ≤ key_field way + word → key_field way + word < key_field way' + 5 → way ≡ way'
same_way Forward Forward word low up down = refl
same_way Forward Backward word low up down = absurd (omega arith)
same_way Forward Port word low up down = absurd (omega arith)
same_way Backward Forward word low up down = absurd (omega arith)
same_way Backward Backward word low up down = refl
same_way Backward Port word low up down = absurd (omega arith)
same_way Port Forward word low up down = absurd (omega arith)
same_way Port Backward word low up down = absurd (omega arith)
same_way Port Port word low up down = refl

-- key fields come behind the incarnation's
behind_inc : (way : Way) → 3 ≤ key_field way
behind_inc Forward = omega arith
behind_inc Backward = omega arith
behind_inc Port = omega arith

module _ {S A R F : Type 0} where
  -- the pass after stores in its own places
  abbrev pub with_stored : Me F (CellView S A R) → List StoredWord → Me F (CellView S A R)
  with_stored me stored = with_pools me (record me.0.pools { stored = stored })

  -- stores that follow one another
  pub stored_more : (old now next : Me F (CellView S A R)) (stored : List StoredWord) → now ≡ with_stored old now.0.pools.stored →
      next ≡ with_stored now stored → next ≡ with_stored old next.0.pools.stored
  stored_more old now next stored is more =
      let on : next ≡ with_stored old stored = more ∙ ap (λ (y : Me F (CellView S A R)). with_stored y stored) is in
      on ∙ ap (λ t. with_stored old t) (sym (ap (λ (y : Me F (CellView S A R)). y.0.pools.stored) more))

  -- a store in a field of a key is such a store
  pub key_word_stored : (me next : Me F (CellView S A R)) (slot field value : ℕ) (way : Way) (word : ℕ) → word < 5 → field ≡ key_field way + word → next ≡ stored_in Slots slot field value me →
      next ≡ with_stored me ((record { pool = Slots; place = slot; field = field; value = value }) ∷ me.0.pools.stored)
  key_word_stored me next slot field value way word low at is =
      let s : StoredWord = record { pool = Slots; place = slot; field = field; value = value } in
      let behind = behind_inc way in
      let near = key_short way word low in
      is ∙ ((λ i. cond (ne_eqb field 2 (λ e. omega (arith, at, e, behind)) i) (record me.0 { turn = with_phase value me.0.turn }, me.1)
      (cond ((Decides-ltb field 18).1 (omega (arith, at, near)) i) (with_pools me (storing Slots slot field value me.0.pools))
      (cond (is_epoch_note field value) (with_pools me (letting_go slot (value - 2 ^ 63) me.0.pools)) (noted_in slot field value me))))
      ∙ ap (λ b. with_pools me (record me.0.pools { unstored = cond b (others_than slot me.0.pools.unstored) me.0.pools.unstored; stored = s ∷ me.0.pools.stored }))
      (ne_eqb field 1 (λ e. omega (arith, at, e))))

-- a filter does nothing twice
filter_again : {A : Type 0} (p : A → Bool) (xs : List A) → filter p (filter p xs) ≡ filter p xs
filter_again p [] = refl
filter_again p (x ∷ xs) = by_test (filter_again p xs) (p x) refl
  where
    by_test : filter p (filter p xs) ≡ filter p xs → (b : Bool) → p x ≡ b → filter p (cond b (x ∷ filter p xs) (filter p xs)) ≡ cond b (x ∷ filter p xs) (filter p xs)
    by_test rest true e = ap (λ b. cond b (x ∷ filter p (filter p xs)) (filter p (filter p xs))) e ∙ ap (λ ys. x ∷ ys) rest
    by_test rest false e = rest

-- a note that is stored and then forgotten
pub notes_once : (slot field value : ℕ) (notes : List Note) → notes_but slot field ((record { slot = slot; field = field; value = value }) ∷ notes_but slot field notes) ≡ notes_but slot field notes
notes_once slot field value notes =
    let new : Note = record { slot = slot; field = field; value = value } in
    ap (λ b. cond (not b) (new ∷ notes_but slot field (notes_but slot field notes)) (notes_but slot field (notes_but slot field notes))) (λ i. eq-eqb slot slot refl i && eq-eqb field field refl i)
    ∙ filter_again (λ (note : Note). not (is_note_of slot field note)) notes

module _ {S A R F : Type 0} where
  -- the pass after it stored a note freely
  abbrev pub noting : ℕ → Way → ℕ → Me F (CellView S A R) → Me F (CellView S A R)
  noting slot way value me = with_pools me (record me.0.pools { notes = (record { slot = slot; field = note_field way; value = value }) ∷ notes_but slot (note_field way) me.0.pools.notes })

  -- as a store in the note's field, of less than an epoch
  pub note_stored : (me next : Me F (CellView S A R)) (slot field value : ℕ) (way : Way) → field ≡ note_field way →
      value < 2 ^ 63 → next ≡ stored_in Slots slot field value me → next ≡ noting slot way value me
  note_stored me next slot field value way at low is =
      let late = note_late way in
      is ∙ ((λ i. cond (ne_eqb field 2 (λ e. omega (arith, at, e, late)) i) (record me.0 { turn = with_phase value me.0.turn }, me.1)
      (cond (not_below (nat_lt field 18) refl i) (with_pools me (storing Slots slot field value me.0.pools))
      (cond (no_epoch (eqb field 18) i) (with_pools me (letting_go slot (value - 2 ^ 63) me.0.pools)) (noted_in slot field value me))))
      ∙ ap (λ f. noted_in slot f value me) at)
    where
      not_below : (b : Bool) → nat_lt field 18 ≡ b → b ≡ false
      not_below true e = let late = note_late way in absurd (let below = (Decides-ltb field 18).0 e in omega (arith, below, at, late))
      not_below false e = refl

      no_epoch : (b : Bool) → b && eqb (has_epoch value) 1 ≡ false
      no_epoch true = ap (λ n. eqb n 1) (low_note value low)
      no_epoch false = refl

module _ {S A R : Type 0} (m : Meaning S A R) where
  -- where the pass may store the key it may store each of its words
  pub may_store_word : (v : CellView S A R) (slot field value : ℕ) (way : Way) (word : ℕ) → word < 5 → field ≡ key_field way + word → MayStoreKey m v slot way → MayStoreInSlot m v slot field value
  may_store_word v slot field value way word low at may =
      let behind = behind_inc way in
      record {
        id = may.id;
        built = may.hold.built;
        there = may.there;
        turnless = omega arith;
        phaseless = λ e. absurd (omega (arith, at, e, behind));
        noteless = let near = key_short way word low in omega (arith, at, near);
        inc = λ e. absurd (omega (arith, at, e));
        keyless = λ way' up down. subst (λ w. HoldsNone (state_of m v.seats.history) may.id w) (same_way way way' word low (omega arith) (omega arith)) may.hold.bare;
      }

  -- and still after stores
  pub may_store_still : {F : Type 0} (me next : Me F (CellView S A R)) (stored : List StoredWord) (slot : ℕ) (way : Way) →
      next ≡ with_stored me stored → MayStoreKey m me.0 slot way → MayStoreKey m next.0 slot way
  may_store_still {F} me next stored slot way is may =
      subst (λ (y : Me F (CellView S A R)). MayStoreKey m y.0 slot way) (sym is) (record { id = may.id; there = may.there; hold = record { built = may.hold.built; bare = may.hold.bare } })

-- what was stored in nodes is as it was
nodes_same : (layout : Layout) (rest stored : List StoredWord) (slot field value : ℕ) →
    stored ≡ (record { pool = Slots; place = slot; field = field; value = value }) ∷ rest → KeepsNodes layout rest stored
nodes_same layout rest stored slot field value is word low =
    let s : StoredWord = record { pool = Slots; place = slot; field = field; value = value } in
    ap (λ t. stored_value layout t word) is ∙ stored_before layout s rest word (λ e. absurd (omega (arith, low, e)))

module _ (layout : Layout) (slot : ℕ) (way : Way) (value : ℕ → ℕ) where
  more_words : (rest stored : List StoredWord) (field word : ℕ) → field ≡ key_field way + word →
      ((i : ℕ) → i < word → stored_value layout rest (field_at layout Slots slot (key_field way + i)) ≡ Some (value i)) →
      stored ≡ (record { pool = Slots; place = slot; field = field; value = value word }) ∷ rest →
      (i : ℕ) → i < word + 1 → stored_value layout stored (field_at layout Slots slot (key_field way + i)) ≡ Some (value i)
  more_words rest stored field word at below is i low =
      let s : StoredWord = record { pool = Slots; place = slot; field = field; value = value word } in
      ap (λ t. stored_value layout t (field_at layout Slots slot (key_field way + i))) is ∙
      ⊎_elim
      (λ (e : i ≡ word). stored_here layout s rest (field_at layout Slots slot (key_field way + i)) (omega (arith, at, e)) ∙ ap (λ n. Some (value n)) (sym e))
      (λ ne. stored_before layout s rest (field_at layout Slots slot (key_field way + i)) (λ e. ne (omega (arith, at, e))) ∙ below i (omega (arith, low, ne)))
      (cases_eq i word)

module _ {S A R F : Type 0} (m : Meaning S A R) (layout : Layout) (slot : ℕ) (way : Way) (value : ℕ → ℕ) where
  -- the key's words below this one are stored
  pub record KeyStoredBelow (old : Me F (CellView S A R)) (word : ℕ) (now : Me F (CellView S A R)) : Type 0 where
    pub may : MayStoreKey m now.0 slot way
    pub next : now ≡ with_stored old now.0.pools.stored
    pub words : (i : ℕ) → i < word → stored_value layout now.0.pools.stored (field_at layout Slots slot (key_field way + i)) ≡ Some (value i)
    pub keeps : KeepsNodes layout old.0.pools.stored now.0.pools.stored

  -- and then one more
  pub one_word_more : (old now next : Me F (CellView S A R)) (field word : ℕ) → word < 5 → field ≡ key_field way + word → KeyStoredBelow old word now →
      next ≡ stored_in Slots slot field (value word) now → KeyStoredBelow old (word + 1) next
  one_word_more old now next field word low at so is =
      let on = key_word_stored now next slot field (value word) way word low at is in
      let stored = ap (λ (y : Me F (CellView S A R)). y.0.pools.stored) on in
      record {
        may = may_store_still m now next _ slot way on so.may;
        next = stored_more old now next _ so.next on;
        words = more_words layout slot way value now.0.pools.stored next.0.pools.stored field word at so.words stored;
        keeps = λ w low. nodes_same layout now.0.pools.stored next.0.pools.stored slot field (value word) stored w low ∙ so.keeps w low;
      }

-- a word of a node's places, or none
outside_one : (layout : Layout) (node word digit : ℕ) → LiesOutside layout 16 (node ∷ []) word → digit < 16 → field_at layout Nodes node digit ≢ word
outside_one layout node word digit outside low = outside node digit (0, omega arith, refl) low

module _ {S A R F : Type 0} (layout : Layout) (node : ℕ) (cell : ℕ → Cell) where
  -- the node's places at the digits below this one are stored
  pub record NodeFilledBelow (old : Me F (CellView S A R)) (digit : ℕ) (now : Me F (CellView S A R)) : Type 0 where
    pub owned : Contains now.0.pools.nodes node
    pub next : now ≡ with_stored old now.0.pools.stored
    pub cells : (d : ℕ) → d < digit → cell_stored layout now.0.pools.stored (Node node d) ≡ cell d
    pub outside : KeepsOutside layout 16 (node ∷ []) old.0.pools.stored now.0.pools.stored

  -- and then one more
  pub one_place_more : (old now next : Me F (CellView S A R)) (digit word : ℕ) → WordsSayCells → digit < 16 → word ≡ cell_word (cell digit) → NodeFilledBelow old digit now →
      next ≡ with_pools now (storing Nodes node digit word now.0.pools) → NodeFilledBelow old (digit + 1) next
  one_place_more old now next digit word said low is so on =
      let s : StoredWord = record { pool = Nodes; place = node; field = digit; value = word } in
      let stored : next.0.pools.stored ≡ s ∷ now.0.pools.stored = ap (λ (y : Me F (CellView S A R)). y.0.pools.stored) on in
      record {
        owned = subst (λ (y : Me F (CellView S A R)). Contains y.0.pools.nodes node) (sym on) so.owned;
        next = stored_more old now next _ so.next on;
        cells = λ d below. ap (λ t. cell_stored layout t (Node node d)) stored ∙
            ⊎_elim
            (λ (e : d ≡ digit). ap stored_cell (stored_here layout s now.0.pools.stored (field_at layout Nodes node d) (omega (arith, e))) ∙ (ap cell_of is ∙ (said (cell digit) ∙ ap cell (sym e))))
            (λ ne. ap stored_cell (stored_before layout s now.0.pools.stored (field_at layout Nodes node d) (λ e. ne (omega (arith, e)))) ∙ so.cells d (omega (arith, below, ne)))
            (cases_eq d digit);
        outside = λ w out. ap (λ t. stored_value layout t w) stored ∙ (stored_before layout s now.0.pools.stored w (outside_one layout node w digit out low) ∙ so.outside w out);
      }

-- what was stored as a node's parent, and of the other words of nodes
module _ {S A R F : Type 0} (layout : Layout) (node code : ℕ) (old now : Me F (CellView S A R)) (puts : now ≡ with_pools old (storing Nodes node parent_field code old.0.pools)) where
  abbrev put : StoredWord
  put = record { pool = Nodes; place = node; field = parent_field; value = code }

  puts_more : now.0.pools.stored ≡ put ∷ old.0.pools.stored
  puts_more = ap (λ (y : Me F (CellView S A R)). y.0.pools.stored) puts

  pub parent_next : now ≡ with_stored old now.0.pools.stored
  parent_next = puts ∙ ap (λ stored. with_stored old stored) (sym puts_more)

  pub parent_nodes : now.0.pools.nodes ≡ old.0.pools.nodes
  parent_nodes = ap (λ (y : Me F (CellView S A R)). y.0.pools.nodes) puts

  pub parent_there : IsParentStored layout now.0.pools.stored node code
  parent_there = ap (λ t. stored_value layout t (field_at layout Nodes node parent_field)) puts_more ∙ stored_here layout put old.0.pools.stored (field_at layout Nodes node parent_field) refl

  pub parent_outside : (word : ℕ) → field_at layout Nodes node parent_field ≢ word → stored_value layout now.0.pools.stored word ≡ stored_value layout old.0.pools.stored word
  parent_outside word apart = ap (λ t. stored_value layout t word) puts_more ∙ stored_before layout put old.0.pools.stored word apart
