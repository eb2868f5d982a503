-- What passes stored in their own places stays through steps that leave these words.
use Rattle.std.specs.List.{Contains}
use Rattle.std.proofs.Common.{◌≡◌, ◌≢◌, ℕ, ◌<◌, Bool, true, false, ◌==◌, ◌&&◌, not, cond, eqb, ne_eqb, Some, List, [], ◌∷◌, ◌++◌, set, slice_index, refl, sym, ap, ◌∙◌, subst, ⊎_elim, arith}
use Rattle.std.proofs.lemmas.{Bool.Decides.{Decides-eqb, not_from_Decides}, List.Elements.{Contains-append_left, Contains-append_right, Contains-push}}
use Rattle.std.proofs.lemmas.Bool.{not-true}
use mathlib.Core.Option.{some}
use lib.ListN.{get_elem?}
use Rattle.atomic_table.proofs.Lists.{at_set, at_snoc}
use Rattle.npf_types.specs.declared.key.Way.{Way}
use Rattle.npf_shelf.proofs.ListLemmas.{Contains-filter_parts}
use Rattle.npf_core.specs.declared.conn_id.ConnId.{ConnId}
use Rattle.npf_paths.specs.declared.place.Lock.{Lock}
use Rattle.npf_paths.specs.declared.place.Lock.TheVariants as Locking
use Rattle.npf_cells_words.specs.declared.layout.{Layout.Layout, Pool.{Pool, TheVariants.{Slots, Nodes}}}
use Rattle.npf_cells_words.{specs.Layout.{turn_field, phase_field, note_field, field_at}, proofs.WordLemmas.{note_late, note_soon}}
use Rattle.npf_cells_words.specs.Places.{lock_at, IsLockOf}
use Rattle.npf_seats.proofs.PrefixLemmas.{none_listed}
use Rattle.npf_cells_lives.specs.{declared.pools.{PoolSide.PoolSide, StoredWord.StoredWord}, Conns.IsBuiltIn}
use Rattle.npf_cells_lives.specs.{Stored.{is_slots, stored_value, is_of_slot, stored_but, IsOwnField, FitsStored, StoredWords}, Turns.IsTurnField}

-- a word whose value is known was stored
pub record WasStored (layout : Layout) (stored : List StoredWord) (word : ℕ) : Type 0 where
  pub s : StoredWord
  pub listed : Contains stored s
  pub there : field_at layout s.pool s.place s.field ≡ word

pub was_stored : (layout : Layout) (stored : List StoredWord) (word n : ℕ) → stored_value layout stored word ≡ Some n → WasStored layout stored word
was_stored layout [] word n e = absurd cc
was_stored layout (s ∷ rest) word n e = by_word (was_stored layout rest word n) (eqb (field_at layout s.pool s.place s.field) word) refl e
  where
    by_word : (stored_value layout rest word ≡ Some n → WasStored layout rest word) → (b : Bool) →
        eqb (field_at layout s.pool s.place s.field) word ≡ b → cond b (Some s.value) (stored_value layout rest word) ≡ Some n →
        WasStored layout (s ∷ rest) word
    by_word further true here is = record { s = s; listed = Contains-append_left (s ∷ []) rest s (Contains-push [] s); there = (Decides-eqb _ word).0 here }
    by_word further false here is =
        let older = further is in
        record { s = older.s; listed = Contains-append_right (s ∷ []) rest older.s older.listed; there = older.there }

-- nothing is stored
pub fits_unstored : (layout : Layout) (words : List ℕ) (side : PoolSide) → side.stored ≡ [] → FitsStored layout words side
fits_unstored layout words side none = record {
  own = λ s c. absurd (none_listed s (subst (λ stored. Contains stored s) none c));
  stands = λ word n e. absurd (let no : stored_value layout [] word ≡ Some n = ap (λ stored. stored_value layout stored word) (sym none) ∙ e in cc);
}

-- whoever owns the same has the same fields
pub own_same : (layout : Layout) (side side' : PoolSide) → side'.nodes ≡ side.nodes → side'.builds ≡ side.builds →
    (pool : Pool) (place field : ℕ) → IsOwnField layout side pool place field → IsOwnField layout side' pool place field
own_same layout side side' nodes builds Slots place field own = (subst (λ b. IsBuiltIn b place) (sym builds) own.0, own.1, own.2, own.3, own.4)
own_same layout side side' nodes builds Nodes place field own = (subst (λ ns. Contains ns place) (sym nodes) own.0, own.1, own.2, own.3)

-- the words of the pass's places are the same, and it owns what it owned
pub stored_kept : (layout : Layout) (words words' : List ℕ) (side side' : PoolSide) → FitsStored layout words side → side'.stored ≡ side.stored →
    ((pool : Pool) (place field : ℕ) → IsOwnField layout side pool place field → IsOwnField layout side' pool place field) →
    ((pool : Pool) (place field : ℕ) → IsOwnField layout side pool place field → slice_index words' (field_at layout pool place field) ≡ slice_index words (field_at layout pool place field)) →
    FitsStored layout words' side'
stored_kept layout words words' side side' fits same own words_same = record {
  own = λ s c. own s.pool s.place s.field (fits.own s (subst (λ stored. Contains stored s) same c));
  stands = λ word n e.
      let is : stored_value layout side.stored word ≡ Some n = ap (λ stored. stored_value layout stored word) (sym same) ∙ e in
      let was = was_stored layout side.stored word n is in
      let kept = words_same was.s.pool was.s.place was.s.field (fits.own was.s was.listed) in
      ap (slice_index words') (sym was.there) ∙ (kept ∙ (ap (slice_index words) was.there ∙ fits.stands word n is));
}

-- words that are the same in every place
pub stored-words : (layout : Layout) (words words' : List ℕ) (side : PoolSide) → FitsStored layout words side →
    ((pool : Pool) (place field : ℕ) → slice_index words' (field_at layout pool place field) ≡ slice_index words (field_at layout pool place field)) → FitsStored layout words' side
stored-words layout words words' side fits same = stored_kept layout words words' side side fits refl (λ pool place field own. own) (λ pool place field own. same pool place field)

module _ {V : Type 0} (side_of : V → PoolSide) (layout : Layout) where
  pub stored-set : (words : List ℕ) (views : List V) (i : ℕ) (w : V) → FitsStored layout words (side_of w) →
      ((j : ℕ) (v : V) → j ≢ i → get_elem? views j ≡ some v → FitsStored layout words (side_of v)) →
      StoredWords side_of layout words (set views i w)
  stored-set words views i w mine kept j u e = ⊎_elim
      (λ (x : (j ≡ i) × (w ≡ u)). subst (λ (y : V). FitsStored layout words (side_of y)) x.1 mine)
      (λ (x : (j ≢ i) × (get_elem? views j ≡ some u)). kept j u x.0 x.1)
      (at_set views i j w u e)

  pub stored-push : (words : List ℕ) (views : List V) (w : V) → FitsStored layout words (side_of w) → StoredWords side_of layout words views → StoredWords side_of layout words (views ++ w ∷ [])
  stored-push words views w mine kept j u e = ⊎_elim
      (λ (there : get_elem? views j ≡ some u). kept j u there)
      (λ (x : w ≡ u). subst (λ (y : V). FitsStored layout words (side_of y)) x mine)
      (at_snoc views w u j e)

-- no lock lies in a word of a place that a pass owns
pub no_lock : (layout : Layout) (side : PoolSide) (pool : Pool) (place field : ℕ) (lock : Lock) → IsOwnField layout side pool place field →
    IsLockOf layout lock → lock_at layout lock ≢ field_at layout pool place field
no_lock layout side Slots place field (Locking.Root digit) own h e = absurd (omega (arith, h, e))
no_lock layout side Slots place field (Locking.Node node) own h e = absurd (omega (arith, h, e))
no_lock layout side Nodes place field (Locking.Root digit) own h e = absurd (omega (arith, h, e))
no_lock layout side Nodes place field (Locking.Node node) own h e = let short = own.2 in own.3 (omega (arith, e, short))

-- nor a note
pub no_note : (layout : Layout) (side : PoolSide) (pool : Pool) (place field slot : ℕ) (way : Way) → IsOwnField layout side pool place field →
    field_at layout Slots slot (note_field way) ≢ field_at layout pool place field
no_note layout side Slots place field slot way own e = let short = own.3 in let late = note_late way in let soon = note_soon way in absurd (omega (arith, short, late, soon, e))
no_note layout side Nodes place field slot way own e = let low = own.1 in let short = own.2 in absurd (omega (arith, low, short, e))

-- nor a turn or a phase
pub no_turn : (layout : Layout) (side : PoolSide) (pool : Pool) (place field slot f : ℕ) → IsOwnField layout side pool place field →
    slot < layout.slots → IsTurnField f → field_at layout Slots slot f ≢ field_at layout pool place field
no_turn layout side Slots place field slot f own h is e = ⊎_elim
    (λ (turn : f ≡ turn_field). absurd (let low = own.2 in let high = own.3 in omega (arith, turn, low, high, e)))
    (λ (phase : f ≡ phase_field). own.4 (let high = own.3 in omega (arith, phase, high, e)))
    is
no_turn layout side Nodes place field slot f own h is e = absurd (let low = own.1 in let high = own.2 in omega (arith, low, high, e))

-- a slot's words are forgotten: the others stand still
module _ (layout : Layout) (words : List ℕ) (side : PoolSide) (slot : ℕ) where
  -- a word of another place isn't one of the slot's
  other_place : (a b : Pool) (p q f g : ℕ) → is_slots a && (p == slot) ≡ true → is_slots b && (q == slot) ≡ false →
      IsOwnField layout side a p f → IsOwnField layout side b q g → field_at layout a p f ≢ field_at layout b q g
  other_place Slots Slots p q f g mine other own own' e =
      let same : p ≡ slot = (Decides-eqb p slot).0 mine in
      let ne : q ≢ slot = not_from_Decides _ (Decides-eqb q slot) other in
      ne (let a = own.3 in let b = own'.3 in omega (arith, same, a, b, e))
  other_place Slots Nodes p q f g mine other own own' e = absurd (let a = own'.1 in let b = own'.2 in omega (arith, a, b, e))
  other_place Nodes b p q f g mine other own own' e = absurd cc

  forgets : (stored : List StoredWord) → ((s : StoredWord) → Contains stored s → IsOwnField layout side s.pool s.place s.field) → (word n : ℕ) →
      stored_value layout (stored_but slot stored) word ≡ Some n → stored_value layout stored word ≡ Some n
  forgets [] own word n e = e
  forgets (s ∷ rest) own word n e = by_slot (λ d. forgets rest (λ x c. own x (Contains-append_right (s ∷ []) rest x c)) word n d) (is_of_slot slot s) refl e
    where
      first : Contains (s ∷ rest) s
      first = Contains-append_left (s ∷ []) rest s (Contains-push [] s)

      by_slot : (stored_value layout (stored_but slot rest) word ≡ Some n → stored_value layout rest word ≡ Some n) → (b : Bool) → is_of_slot slot s ≡ b →
          stored_value layout (cond (not b) (s ∷ stored_but slot rest) (stored_but slot rest)) word ≡ Some n → stored_value layout (s ∷ rest) word ≡ Some n
      by_slot more true is d =
          let left = was_stored layout (stored_but slot rest) word n d in
          let kept = Contains-filter_parts (λ x. not (is_of_slot slot x)) rest left.s left.listed in
          let apart = other_place s.pool left.s.pool s.place left.s.place s.field left.s.field is (not-true (is_of_slot slot left.s) kept.1)
          (own s first) (own left.s (Contains-append_right (s ∷ []) rest left.s kept.0)) in
          ap (λ b. cond b (Some s.value) (stored_value layout rest word)) (ne_eqb (field_at layout s.pool s.place s.field) word (λ here. apart (here ∙ sym left.there))) ∙ more d
      by_slot more false is d = by_word (eqb (field_at layout s.pool s.place s.field) word) refl d
        where
          by_word : (b : Bool) → eqb (field_at layout s.pool s.place s.field) word ≡ b →
              cond b (Some s.value) (stored_value layout (stored_but slot rest) word) ≡ Some n → cond b (Some s.value) (stored_value layout rest word) ≡ Some n
          by_word true here f = f
          by_word false here f = more f

  pub fits_but : FitsStored layout words side → (builds : List ConnId) → ((p : ℕ) → p ≢ slot → IsBuiltIn side.builds p → IsBuiltIn builds p) →
      FitsStored layout words (record side { builds = builds; stored = stored_but slot side.stored })
  fits_but fits builds still = record {
    own = λ s c. (let left = Contains-filter_parts (λ x. not (is_of_slot slot x)) side.stored s c in owns s.pool s.place s.field (not-true (is_of_slot slot s) left.1) (fits.own s left.0));
    stands = λ word n e. fits.stands word n (forgets side.stored fits.own word n e);
  }
    where
      owns : (pool : Pool) (place field : ℕ) → is_slots pool && (place == slot) ≡ false → IsOwnField layout side pool place field →
          IsOwnField layout (record side { builds = builds; stored = stored_but slot side.stored }) pool place field
      owns Slots place field other own = (still place (not_from_Decides _ (Decides-eqb place slot) other) own.0, own.1, own.2, own.3, own.4)
      owns Nodes place field other own = own
