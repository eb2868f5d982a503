-- The part on notes stays through steps that leave its words, what the paths meet, and the holders.
use Rattle.std.specs.List.{Contains}
use Rattle.std.proofs.Common.{◌≡◌, ◌≢◌, ℕ, true, false, not, ◌&&◌, eq-eqb, Option, Some, None, List, [], ◌∷◌, ◌++◌, set, refl, sym, ap, ◌∙◌, subst, ⊎_elim, inl, inr}
use mathlib.Core.Option.{some, some-injective}
use lib.ListN.{get_elem?}
use Rattle.std.proofs.lemmas.{Bool.cases_eq, List.Elements.{Contains-append_left, Contains-push}}
use Rattle.atomic_table.proofs.Lists.{at_longer, at_set, at_snoc, set_else}
use Rattle.npf_shelf.proofs.ListLemmas.{Contains-filter_parts}
use Rattle.npf_seats.proofs.{SumLemmas.set_there, PrefixLemmas.none_listed}
use Rattle.npf_types.specs.declared.key.{Key.Key, Way.Way}
use Rattle.npf_core.specs.{declared.{conn_id.ConnId.ConnId, found.Found.Found, slot.Slot.Slot, stage.Stage.TheVariants.Dead}, Machine.{Machine, HoldsNone}}
use Rattle.npf_paths.{specs.{declared.{cell.Cell.Cell, place.Place.Place}, PathLaw.AgreesOnPath, Paths.AreDigits}, proofs.PathLemmas.same_places}
use Rattle.npf_cells_words.specs.{declared.layout.Layout.Layout, Layout.note_field}
use Rattle.npf_cells_lives.specs.{declared.{pools.{Note.Note, PoolSide.PoolSide}, turn.{Ahead.Ahead, Said.Said, Turn.Turn}}, Conns.IsBuiltIn}
use Rattle.npf_cells_lives.specs.Deaths.{has_epoch, last_id}
use Rattle.npf_cells_lives.specs.Notes.{note_word, IsAheadOf, NobodyAhead, with_ahead, IsFirm, FitsAhead, FitsNote, is_note_of, notes_but, Notes}
use Rattle.npf_cells_lives.specs.Turns.{has_turn, stage_phase, StaysAt}

-- who has a turn is ahead of the same notes of its slot, and was told no more
pub record SameAhead {S : Type 0} (old now : Option (Turn S)) : Type 0 where
  pub on : (slot field : ℕ) → IsAheadOf old slot field → IsAheadOf now slot field
  pub was : (turn : Turn S) (note : Ahead) → now ≡ Some turn → turn.ahead ≡ Some note → (before : Turn S) × (old ≡ Some before) × (before.slot ≡ turn.slot) × (before.ahead ≡ Some note)
  pub told : (turn : Turn S) (said : Said) → now ≡ Some turn → turn.said ≡ Some said →
      (before : Turn S) × (old ≡ Some before) × (before.slot ≡ turn.slot) × (before.was ≡ turn.was) × (before.said ≡ Some said)

pub same_ahead : {S : Type 0} (old now : Option (Turn S)) → now ≡ old → SameAhead old now
same_ahead old now same = record {
  on = λ slot field is. record { mine = is.mine; has = same ∙ is.has; there = is.there; note = is.note; ahead = is.ahead; field_is = is.field_is };
  was = λ turn note has ahead. (turn, sym same ∙ has, refl, ahead);
  told = λ turn said has is. (turn, sym same ∙ has, refl, refl, is);
}

-- a turn of which only what it is ahead of is another
pub ahead_turns : {S : Type 0} (ahead : Option Ahead) (turn : Option (Turn S)) (slot : ℕ) → has_turn slot (with_ahead ahead turn) ≡ has_turn slot turn
ahead_turns ahead None slot = refl
ahead_turns ahead (Some turn) slot = refl

-- the notes but one were there, and are others
pub notes_left : (slot field : ℕ) (notes : List Note) (note : Note) → Contains (notes_but slot field notes) note → Contains notes note × (note.slot ≡ slot → note.field ≡ field → ⊥)
notes_left slot field notes note c =
    let left = Contains-filter_parts (λ x. not (is_note_of slot field x)) notes note c in
    (left.0, λ same is. absurd (let no : true ≡ false = sym left.1 ∙ ap not (λ i. eq-eqb note.slot slot same i && eq-eqb note.field field is i) in cc))

-- who stored a note is building
pub no_notes : {S : Type 0} (layout : Layout) (k : Machine S) (words : List ℕ) (builds : List ConnId) (notes : List Note) →
    builds ≡ [] → ((note : Note) → Contains notes note → FitsNote layout k words builds note) → notes ≡ []
no_notes layout k words builds [] none each = refl
no_notes layout k words builds (note ∷ notes) none each =
    let fits = each note (Contains-append_left (note ∷ []) notes note (Contains-push [] note)) in
    absurd (none_listed fits.id (subst (λ ids. Contains ids fits.id) none fits.built))

-- ahead of nothing before and after, and told nothing
pub ahead_of_none : {S : Type 0} (old now : Option (Turn S)) → ((turn : Turn S) → old ≡ Some turn → turn.ahead ≡ None) →
    ((turn : Turn S) → now ≡ Some turn → turn.ahead ≡ None) → ((turn : Turn S) → now ≡ Some turn → turn.said ≡ None) → SameAhead old now
ahead_of_none old now before after untold = record {
  on = λ slot field is. absurd (let no : None ≡ Some is.note = sym (before is.mine is.has) ∙ is.ahead in cc);
  was = λ turn note has ahead. absurd (let no : None ≡ Some note = sym (after turn has) ∙ ahead in cc);
  told = λ turn said has is. absurd (let no : None ≡ Some said = sym (untold turn has) ∙ is in cc);
}

module _ {S : Type 0} (layout : Layout) where
  -- the notes' words and what paths meet are the same, so are the holders, and each slot is still at what it was
  pub record NotesStay (k k' : Machine S) (cell cell' : Place → Cell) (words words' : List ℕ) : Type 0 where
    pub cells : (digits : ℕ → ℕ) → AreDigits digits → AgreesOnPath digits cell cell'
    pub notes : (slot : ℕ) (way : Way) → note_word layout words' slot way ≡ note_word layout words slot way
    pub held : (key : Key) (found : Found) → k.holder key ≡ Some found → k'.holder key ≡ Some found
    pub back : (key : Key) (found : Found) → k'.holder key ≡ Some found → k.holder key ≡ Some found
    pub slots : (slot : ℕ) → StaysAt (k.slot slot) (k'.slot slot)

  pub ahead_fits : (k k' : Machine S) (words words' : List ℕ) (slot : ℕ) (note : Ahead) (fits : FitsAhead layout k words slot note) →
      note_word layout words' slot fits.way ≡ note_word layout words slot fits.way →
      ((key : Key) (found : Found) → k.holder key ≡ Some found → k'.holder key ≡ Some found) → FitsAhead layout k' words' slot note
  ahead_fits k k' words words' slot note fits same held = record {
    way = fits.way;
    field_is = fits.field_is;
    id = fits.id;
    id_there = fits.id_there;
    held = (fits.held.0, held fits.held.0 (record { id = fits.id; way = fits.way }) fits.held.1);
    stands = same ∙ fits.stands;
    place = fits.place;
    names = fits.names;
  }

  pub note_stays : (k k' : Machine S) (words words' : List ℕ) (builds builds' : List ConnId) (note : Note) →
      ((way : Way) → note.field ≡ note_field way → note_word layout words' note.slot way ≡ note_word layout words note.slot way) →
      ((key : Key) (id : ConnId) (way : Way) → Contains builds id → note.field ≡ note_field way → id.slot ≡ note.slot →
      k'.holder key ≡ Some (record { id = id; way = way }) → k.holder key ≡ Some (record { id = id; way = way })) →
      ((id : ConnId) → id.slot ≡ note.slot → Contains builds id → Contains builds' id) → FitsNote layout k words builds note → FitsNote layout k' words' builds' note
  note_stays k k' words words' builds builds' note same back more fits = record {
    id = fits.id;
    built = more fits.id fits.there fits.built;
    there = fits.there;
    way = fits.way;
    field_is = fits.field_is;
    bare = λ key holds. fits.bare key (back key fits.id fits.way fits.built fits.field_is fits.there holds);
    stands = same fits.way fits.field_is ∙ fits.stands;
  }

  -- a Live slot was so before
  pub live_before : (k k' : Machine S) (slot : ℕ) → StaysAt (k.slot slot) (k'.slot slot) → stage_phase (k'.slot slot).stage ≡ 1 → k'.slot slot ≡ k.slot slot
  live_before k k' slot stays live = ⊎_elim
      (λ (same : k'.slot slot ≡ k.slot slot). same)
      (λ (idle : (stage_phase (k.slot slot).stage ≡ 0) × (stage_phase (k'.slot slot).stage ≡ 0)). absurd (let no : 1 ≡ 0 = sym live ∙ idle.1 in cc))
      stays

-- nobody was ahead of a note where now nobody is, and the view that changed is still ahead of what it was
pub nobody_before : {S V : Type 0} (turn_of : V → Option (Turn S)) (views : List V) (i : ℕ) (v w : V) (slot field : ℕ) → get_elem? views i ≡ some v →
    (IsAheadOf (turn_of v) slot field → IsAheadOf (turn_of w) slot field) → NobodyAhead turn_of (set views i w) slot field → NobodyAhead turn_of views slot field
nobody_before turn_of views i v w slot field at on none j u e is = ⊎_elim
    (λ (same : j ≡ i).
    let one : u ≡ v = some-injective u v (sym e ∙ (ap (get_elem? views) same ∙ at)) in
    none i w (set_there views i v w at) (on (subst (λ y. IsAheadOf (turn_of y) slot field) one is)))
    (λ (ne : j ≢ i). none j u (set_else views i j w ne ∙ e) is)
    (cases_eq j i)

-- what was firm stays so where the slot and what it was at are the same
pub firm_on : {S : Type 0} (kills kills' : List ConnId) (turn before : Turn S) (said : Said) → before.slot ≡ turn.slot → before.was ≡ turn.was →
    ((id : ConnId) → Contains kills' id → Contains kills id) → IsFirm kills' turn said → IsFirm kills before said
firm_on {S} kills kills' turn before said slots was more firm = ⊎_elim
    (λ (mine : IsBuiltIn kills' turn.slot). inl (record { id = mine.id; built = more mine.id mine.built; there = mine.there ∙ sym slots }))
    (λ (epoch : (turn.was.stage ≡ Dead) × (has_epoch said.value ≡ 1)). inr (ap (λ (x : Slot S). x.stage) was ∙ epoch.0, epoch.1))
    firm

module _ {S V : Type 0} (turn_of : V → Option (Turn S)) (side_of : V → PoolSide) (layout : Layout) (k : Machine S) (words : List ℕ) where
  -- what two clauses say of one view, over these words
  abbrev pub IsGiven : V → Type 0
  IsGiven v = (id : ConnId) (way : Way) → Contains (side_of v).kills id → ¬ Contains (side_of v).gave_up (record { id = id; way = way }) → HoldsNone k id way → note_word layout words id.slot way ≡ 0

  abbrev pub IsToldSo : V → Type 0
  IsToldSo v = (turn : Turn S) (said : Said) (way : Way) → turn_of v ≡ Some turn → turn.said ≡ Some said →
      IsFirm (side_of v).kills turn said → said.field ≡ note_field way → note_word layout words turn.slot way ≡ said.value

  -- they hold of a view with the same kills, that was told no more
  pub given_same : (v w : V) → (side_of w).kills ≡ (side_of v).kills → (side_of w).gave_up ≡ (side_of v).gave_up → IsGiven v → IsGiven w
  given_same v w kills gave kept id way c not = kept id way (subst (λ ids. Contains ids id) kills c) (λ d. not (subst (λ gs. Contains gs (record { id = id; way = way })) (sym gave) d))

  pub told_same : (v w : V) → ((id : ConnId) → Contains (side_of w).kills id → Contains (side_of v).kills id) → SameAhead (turn_of v) (turn_of w) → IsToldSo v → IsToldSo w
  told_same v w kills same kept turn said way has is firm field =
      let before = same.told turn said has is in
      ap (λ slot. note_word layout words slot way) (sym before.2) ∙ kept before.0 said way before.1 before.4
      (firm_on (side_of v).kills (side_of w).kills turn before.0 said before.2 before.3 kills firm) field

module _ {S V : Type 0} (turn_of : V → Option (Turn S)) (side_of : V → PoolSide) (layout : Layout) (k k' : Machine S) (cell cell' : Place → Cell) (words words' : List ℕ) where
  -- the part after such a step
  pub notes_so : (views views' : List V) → Notes turn_of side_of layout cell k words views → NotesStay layout k k' cell cell' words words' →
      ((slot field : ℕ) → NobodyAhead turn_of views' slot field → NobodyAhead turn_of views slot field) →
      ((j : ℕ) (v : V) → get_elem? views' j ≡ some v → IsGiven turn_of side_of layout k words v × IsToldSo turn_of side_of layout k words v) →
      ((j : ℕ) (v : V) (turn : Turn S) (note : Ahead) → get_elem? views' j ≡ some v → turn_of v ≡ Some turn → turn.ahead ≡ Some note → FitsAhead layout k words turn.slot note) →
      ((j : ℕ) (v : V) (note : Note) → get_elem? views' j ≡ some v → Contains (side_of v).notes note → FitsNote layout k words (side_of v).builds note) →
      Notes turn_of side_of layout cell' k' words' views'
  notes_so views views' kept same nobody both ahead each = record {
    named = λ digits level p slot way are on is none.
        let agree = same.cells digits are in
        let before = same_places agree on in
        same.notes slot way ∙ kept.named digits level p slot way are before (sym (agree level p before) ∙ is) (nobody slot (note_field way) none);
    bare = λ slot way within live none.
        let now = live_before layout k k' slot (same.slots slot) live in
        same.notes slot way ∙ kept.bare slot way within (sym (ap (λ (x : Slot S). stage_phase x.stage) now) ∙ live)
        (λ key holds. none key (subst (λ (x : Slot S). k'.holder key ≡ Some (record { id = record { slot = slot; inc = x.inc }; way = way }))
        (sym now) (same.held key (record { id = last_id k slot; way = way }) holds)));
    given = λ j v id way there c not none. same.notes id.slot way ∙ (both j v there).0 id way c not (λ key holds. none key (same.held key (record { id = id; way = way }) holds));
    said = λ j v turn said way there has is firm field. same.notes turn.slot way ∙ (both j v there).1 turn said way has is firm field;
    ahead = λ j v turn note there has is. (let fits = ahead j v turn note there has is in ahead_fits layout k k' words words' turn.slot note fits (same.notes turn.slot fits.way) same.held);
    each = λ j v note there c. note_stays layout k k' words words' (side_of v).builds (side_of v).builds note (λ way e. same.notes note.slot way)
        (λ key id way built e e' holds. same.back key (record { id = id; way = way }) holds) (λ id e c'. c') (each j v note there c);
  }

  -- one view changes, which is ahead of the same, stored the same notes, builds what it built, and killed no more
  pub notes-less : (views : List V) (i : ℕ) (v w : V) → Notes turn_of side_of layout cell k words views → get_elem? views i ≡ some v → SameAhead (turn_of v) (turn_of w) →
      IsGiven turn_of side_of layout k words w → ((id : ConnId) → Contains (side_of w).kills id → Contains (side_of v).kills id) →
      (side_of w).notes ≡ (side_of v).notes → ((id : ConnId) → Contains (side_of v).builds id → Contains (side_of w).builds id) →
      NotesStay layout k k' cell cell' words words' → Notes turn_of side_of layout cell' k' words' (set views i w)
  notes-less views i v w kept at same given kills notes builds stay = notes_so views (set views i w) kept stay nobody both aheads each
    where
      both : (j : ℕ) (u : V) → get_elem? (set views i w) j ≡ some u → IsGiven turn_of side_of layout k words u × IsToldSo turn_of side_of layout k words u
      both j u e = ⊎_elim
          (λ (x : (j ≡ i) × (w ≡ u)).
          subst (λ (y : V). IsGiven turn_of side_of layout k words y × IsToldSo turn_of side_of layout k words y) x.1 (
            given,
            told_same turn_of side_of layout k words v w kills same (λ turn said way. kept.said i v turn said way at),
          ))
          (λ (x : (j ≢ i) × (get_elem? views j ≡ some u)). (λ id way. kept.given j u id way x.1, λ turn said way. kept.said j u turn said way x.1))
          (at_set views i j w u e)

      nobody : (slot field : ℕ) → NobodyAhead turn_of (set views i w) slot field → NobodyAhead turn_of views slot field
      nobody slot field none = nobody_before turn_of views i v w slot field at (same.on slot field) none

      aheads : (j : ℕ) (u : V) (turn : Turn S) (note : Ahead) → get_elem? (set views i w) j ≡ some u → turn_of u ≡ Some turn → turn.ahead ≡ Some note → FitsAhead layout k words turn.slot note
      aheads j u turn note e has is = ⊎_elim
          (λ (x : (j ≡ i) × (w ≡ u)).
          let before = same.was turn note (ap turn_of x.1 ∙ has) is in
          subst (λ slot. FitsAhead layout k words slot note) before.2 (kept.ahead i v before.0 note at before.1 before.3))
          (λ (x : (j ≢ i) × (get_elem? views j ≡ some u)). kept.ahead j u turn note x.1 has is)
          (at_set views i j w u e)

      each : (j : ℕ) (u : V) (note : Note) → get_elem? (set views i w) j ≡ some u → Contains (side_of u).notes note → FitsNote layout k words (side_of u).builds note
      each j u note e c = ⊎_elim
          (λ (x : (j ≡ i) × (w ≡ u)).
          let had : Contains (side_of v).notes note = subst (λ ns. Contains ns note) (ap (λ (y : V). (side_of y).notes) (sym x.1) ∙ notes) c in
          let was = kept.each i v note at had in
          subst (λ (y : V). FitsNote layout k words (side_of y).builds note) x.1
          (note_stays layout k k words words (side_of v).builds (side_of w).builds note (λ way e'. refl) (λ key id way built a b holds. holds) (λ id e' c'. builds id c') was))
          (λ (x : (j ≢ i) × (get_elem? views j ≡ some u)). kept.each j u note x.1 c)
          (at_set views i j w u e)

  -- one view changes, and it killed the same
  pub notes-set : (views : List V) (i : ℕ) (v w : V) → Notes turn_of side_of layout cell k words views → get_elem? views i ≡ some v → SameAhead (turn_of v) (turn_of w) →
      (side_of w).kills ≡ (side_of v).kills → (side_of w).gave_up ≡ (side_of v).gave_up → (side_of w).notes ≡ (side_of v).notes →
      ((id : ConnId) → Contains (side_of v).builds id → Contains (side_of w).builds id) →
      NotesStay layout k k' cell cell' words words' → Notes turn_of side_of layout cell' k' words' (set views i w)
  notes-set views i v w kept at same kills gave notes builds stay = notes-less views i v w kept at same
      (given_same turn_of side_of layout k words v w kills gave (λ id way. kept.given i v id way at)) (λ id c. subst (λ ids. Contains ids id) kills c) notes builds stay

  -- one slot changes: a Live connection has bare notes there, and a view may have fewer notes, and other kills of which what is said holds
  pub notes-acted : (views : List V) (i : ℕ) (v w : V) (slot : ℕ) → Notes turn_of side_of layout cell k words views → get_elem? views i ≡ some v →
      SameAhead (turn_of v) (turn_of w) → IsGiven turn_of side_of layout k' words w → IsToldSo turn_of side_of layout k' words w →
      ((note : Note) → Contains (side_of w).notes note → FitsNote layout k words (side_of w).builds note) → ((digits : ℕ → ℕ) → AreDigits digits → AgreesOnPath digits cell cell') →
      ((p : ℕ) (way : Way) → note_word layout words' p way ≡ note_word layout words p way) → ((key : Key) → k'.holder key ≡ k.holder key) → ((p : ℕ) → p ≢ slot → k'.slot p ≡ k.slot p) →
      (stage_phase (k'.slot slot).stage ≡ 1 → (way : Way) → HoldsNone k' (last_id k' slot) way → note_word layout words slot way ≡ 0) → Notes turn_of side_of layout cell' k' words' (set views i w)
  notes-acted views i v w slot kept at same given told mine agrees same_words holder elsewhere fresh = record {
    named = λ digits level p q way are on is none.
        let agree = agrees digits are in
        let before = same_places agree on in
        same_words q way ∙ kept.named digits level p q way are before (sym (agree level p before) ∙ is) (nobody_before turn_of views i v w q (note_field way) at (same.on q (note_field way)) none);
    bare = λ p way within live none. same_words p way ∙ ⊎_elim
        (λ (e : p ≡ slot). ap (λ q. note_word layout words q way) e ∙ fresh (ap (λ q. stage_phase (k'.slot q).stage) (sym e) ∙ live) way (subst (λ q. HoldsNone k' (last_id k' q) way) e none))
        (λ (ne : p ≢ slot). kept.bare p way within (ap (λ (x : Slot S). stage_phase x.stage) (sym (elsewhere p ne)) ∙ live)
        (λ key holds. none key (subst (λ (x : Slot S). k'.holder key ≡ Some (record { id = record { slot = p; inc = x.inc }; way = way })) (sym (elsewhere p ne)) (holder key ∙ holds))))
        (cases_eq p slot);
    given = λ j u id way e c not none. same_words id.slot way ∙ ⊎_elim
        (λ (x : (j ≡ i) × (w ≡ u)). subst (λ (y : V). IsGiven turn_of side_of layout k' words y) x.1 given id way c not none)
        (λ (x : (j ≢ i) × (get_elem? views j ≡ some u)). kept.given j u id way x.1 c not (λ key holds. none key (holder key ∙ holds)))
        (at_set views i j w u e);
    said = λ j u turn said way e has is firm field. same_words turn.slot way ∙ ⊎_elim
        (λ (x : (j ≡ i) × (w ≡ u)). subst (λ (y : V). IsToldSo turn_of side_of layout k' words y) x.1 told turn said way has is firm field)
        (λ (x : (j ≢ i) × (get_elem? views j ≡ some u)). kept.said j u turn said way x.1 has is firm field)
        (at_set views i j w u e);
    ahead = λ j u turn note e has is. ⊎_elim
        (λ (x : (j ≡ i) × (w ≡ u)).
        let before = same.was turn note (ap turn_of x.1 ∙ has) is in
        let fits = kept.ahead i v before.0 note at before.1 before.3 in
        subst (λ q. FitsAhead layout k' words' q note) before.2
        (ahead_fits layout k k' words words' before.0.slot note fits (same_words before.0.slot fits.way) (λ key found holds. holder key ∙ holds)))
        (λ (x : (j ≢ i) × (get_elem? views j ≡ some u)).
        let fits = kept.ahead j u turn note x.1 has is in
        ahead_fits layout k k' words words' turn.slot note fits (same_words turn.slot fits.way) (λ key found holds. holder key ∙ holds))
        (at_set views i j w u e);
    each = λ j u note e c.
        let was : FitsNote layout k words (side_of u).builds note = ⊎_elim
        (λ (x : (j ≡ i) × (w ≡ u)). subst (λ (y : V). FitsNote layout k words (side_of y).builds note) x.1 (mine note (subst (λ (y : V). Contains (side_of y).notes note) (sym x.1) c)))
        (λ (x : (j ≢ i) × (get_elem? views j ≡ some u)). kept.each j u note x.1 c)
        (at_set views i j w u e) in
        note_stays layout k k' words words' (side_of u).builds (side_of u).builds note (λ way is. same_words note.slot way) (λ key id way a b d holds. sym (holder key) ∙ holds) (λ id e' c'. c') was;
  }

  -- a view comes that has no turn and stored no note
  pub notes-push : (views : List V) (w : V) → Notes turn_of side_of layout cell k words views → turn_of w ≡ None → (side_of w).kills ≡ [] →
      (side_of w).notes ≡ [] → NotesStay layout k k' cell cell' words words' → Notes turn_of side_of layout cell' k' words' (views ++ w ∷ [])
  notes-push views w kept none killless bare stay = notes_so views (views ++ w ∷ []) kept stay
      (λ slot field nobody j u e. nobody j u (at_longer views (w ∷ []) j u e))
      (λ j u e. ⊎_elim
      (λ (there : get_elem? views j ≡ some u). (λ id way. kept.given j u id way there, λ turn said way. kept.said j u turn said way there))
      (λ (x : w ≡ u). (
        λ id way c not n. absurd (none_listed id (subst (λ ids. Contains ids id) (ap (λ (y : V). (side_of y).kills) (sym x) ∙ killless) c)),
        λ turn said way has is firm field. absurd (let no : None ≡ Some turn = sym none ∙ (ap turn_of x ∙ has) in cc),
      ))
      (at_snoc views w u j e))
      (λ j u turn note e has is. ⊎_elim
      (λ (there : get_elem? views j ≡ some u). kept.ahead j u turn note there has is)
      (λ (x : w ≡ u). absurd (let no : None ≡ Some turn = sym none ∙ (ap turn_of x ∙ has) in cc))
      (at_snoc views w u j e))
      (λ j u note e c. ⊎_elim
      (λ (there : get_elem? views j ≡ some u). kept.each j u note there c)
      (λ (x : w ≡ u). absurd (none_listed note (subst (λ ns. Contains ns note) (ap (λ (y : V). (side_of y).notes) (sym x) ∙ bare) c)))
      (at_snoc views w u j e))
