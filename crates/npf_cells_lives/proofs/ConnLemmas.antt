-- The part on connections stays through steps that leave its words, and through what passes build and store.
use Rattle.std.specs.List.{Contains}
use Rattle.std.proofs.Common.{◌≡◌, ◌≢◌, ℕ, ◌+◌, ◌<◌, ◌≤◌, Bool, true, false, cond, eqb, List, [], ◌∷◌, ◌++◌, set, length, refl, sym, ap, ◌∙◌, subst, ⊎_elim, arith, length-set}
use Rattle.std.proofs.lemmas.{Bool.{cases_eq, Decides.Decides-eqb}, List.{get_or-set_same, get_or-set_other, Elements.{Contains-append_left, Contains-push}}}
use Rattle.std.proofs.lemmas.List.Sums.{sum_by_push}
use mathlib.Core.Option.{some}
use lib.ListN.{get_elem?}
use Rattle.atomic_table.proofs.Lists.{at_set, at_snoc}
use Rattle.npf_core.specs.{declared.{conn_id.ConnId.ConnId, entry.Entry.Entry, slot.Slot.Slot, stage.Stage.TheVariants.{Vacant, Building}}, History.state_of}
use Rattle.npf_core.specs.{Machine.{Machine, stage_at}, Meaning.Meaning}
use Rattle.npf_cells_words.{specs.{declared.layout.{Layout.Layout, Pool.TheVariants.Slots}, Layout.{inc_field, field_at}}, proofs.WordLemmas.inc_apart}
use Rattle.npf_seats.{specs.Sums.{others_than, occurs}, proofs.{ListLemmas.{occurs_or, stands_once, left_same, left_others}, PrefixLemmas.none_listed}}
use Rattle.npf_seats.proofs.SumLemmas.{sum-set, sum_alone}
use Rattle.npf_cells_lives.specs.{declared.pools.PoolSide.PoolSide, LivesLaw.BuildInOneSlot, Conns.{FitsBuilds, inc_word, unstored_by, Conns}}

-- who builds nothing has nothing to store
pub fits_nothing : {S : Type 0} (k : Machine S) (j : ℕ) → FitsBuilds k j [] []
fits_nothing k j = record { building = λ id c. absurd (none_listed id c); owing = λ slot c. absurd (none_listed slot c); once = λ slot. omega arith }

pub owes_nothing : {S : Type 0} (k : Machine S) (j : ℕ) (builds : List ConnId) (unstored : List ℕ) → FitsBuilds k j builds unstored → builds ≡ [] → unstored ≡ []
owes_nothing k j builds [] fits none = refl
owes_nothing k j builds (x ∷ xs) fits none =
    let owed = fits.owing x (Contains-append_left (x ∷ []) xs x (Contains-push [] x)) in
    absurd (none_listed owed.id (subst (λ ids. Contains ids owed.id) none owed.built))

-- what is Building is the slot's last incarnation
pub building_at : {S : Type 0} (x : Slot S) (inc seat : ℕ) → stage_at x inc ≡ Building seat → (x.inc ≡ inc) × (x.stage ≡ Building seat)
building_at x inc seat built = by_test (eqb x.inc inc) refl built
  where
    by_test : (b : Bool) → eqb x.inc inc ≡ b → cond b x.stage Vacant ≡ Building seat → (x.inc ≡ inc) × (x.stage ≡ Building seat)
    by_test true e is = ((Decides-eqb x.inc inc).0 e, is)
    by_test false e is = absurd cc

pub one_builder : {S : Type 0} (x : Slot S) (i j : ℕ) → x.stage ≡ Building i → x.stage ≡ Building j → i ≡ j
one_builder x i j a b = cc

module _ {S V : Type 0} (side_of : V → PoolSide) where
  -- what passes are building is Building under their numbers
  abbrev pub BuildsIn : Machine S → List V → Type 0
  BuildsIn k views = (j : ℕ) (v : V) → get_elem? views j ≡ some v → FitsBuilds k j (side_of v).builds (side_of v).unstored

  pub builds-set : (k : Machine S) (views : List V) (i : ℕ) (w : V) → FitsBuilds k i (side_of w).builds (side_of w).unstored → BuildsIn k views → BuildsIn k (set views i w)
  builds-set k views i w mine kept j u e = ⊎_elim
      (λ (x : (j ≡ i) × (w ≡ u)). subst (λ (y : ℕ × V). FitsBuilds k y.0 (side_of y.1).builds (side_of y.1).unstored) (λ t. (sym x.0 t, x.1 t)) mine)
      (λ (x : (j ≢ i) × (get_elem? views j ≡ some u)). kept j u x.1)
      (at_set views i j w u e)

  -- a step that leaves them
  pub builds-kept : (k : Machine S) (views : List V) (i : ℕ) (v w : V) → get_elem? views i ≡ some v → (side_of w).builds ≡ (side_of v).builds → (side_of w).unstored ≡ (side_of v).unstored →
      BuildsIn k views → BuildsIn k (set views i w)
  builds-kept k views i v w at builds unstored kept =
      builds-set k views i w (subst (λ (y : List ConnId × List ℕ). FitsBuilds k i y.0 y.1) (λ t. (sym builds t, sym unstored t)) (kept i v at)) kept

  pub builds-push : (k : Machine S) (views : List V) (w : V) → (side_of w).builds ≡ [] → (side_of w).unstored ≡ [] → BuildsIn k views → BuildsIn k (views ++ w ∷ [])
  builds-push k views w none owes kept j u e = ⊎_elim
      (λ (there : get_elem? views j ≡ some u). kept j u there)
      (λ (x : w ≡ u). subst (λ (y : List ConnId × List ℕ). FitsBuilds k j y.0 y.1)
      (λ t. (sym (ap (λ (y : V). (side_of y).builds) (sym x) ∙ none) t, sym (ap (λ (y : V). (side_of y).unstored) (sym x) ∙ owes) t)) (fits_nothing k j))
      (at_snoc views w u j e)

-- how many still have to store an incarnation
module _ {V : Type 0} (side_of : V → PoolSide) where
  pub unstored-set : (views : List V) (i : ℕ) (v w : V) → get_elem? views i ≡ some v → (side_of w).unstored ≡ (side_of v).unstored →
      (slot : ℕ) → unstored_by side_of (set views i w) slot ≡ unstored_by side_of views slot
  unstored-set views i v w at same slot =
      let more = sum-set (λ (u : V). occurs slot (side_of u).unstored) views i v w at in
      let one = ap (occurs slot) same in
      omega (arith, more, one)

  pub unstored-push : (views : List V) (w : V) → (side_of w).unstored ≡ [] → (slot : ℕ) → unstored_by side_of (views ++ w ∷ []) slot ≡ unstored_by side_of views slot
  unstored-push views w none slot =
      let more = sum_by_push (λ (u : V). occurs slot (side_of u).unstored) views w in
      let one : occurs slot (side_of w).unstored ≡ 0 = ap (occurs slot) none in
      omega (arith, more, one)

module _ {S A R V : Type 0} (side_of : V → PoolSide) (m : Meaning S A R) (layout : Layout) (log : List (Entry S A R)) where
  abbrev k : Machine S
  k = state_of m log

  -- the incarnations' words are the same, and so is what passes build and still have to store
  pub conns-same : (words words' : List ℕ) (views views' : List V) → Conns side_of m layout log words views → length words' ≡ length words →
      ((slot : ℕ) → slot < layout.slots → inc_word layout words' slot ≡ inc_word layout words slot) → BuildsIn side_of k views' →
      ((slot : ℕ) → unstored_by side_of views' slot ≡ unstored_by side_of views slot) →
      Conns side_of m layout log words' views'
  conns-same words words' views views' kept count same builds unstored = record {
    reach = count ∙ kept.reach;
    legal = kept.legal;
    each = builds;
    incs = λ slot h. (let now = same slot h in let owed = unstored slot in let was = kept.incs slot h in omega (arith, now, owed, was));
  }

  module _ (words : List ℕ) (views : List V) (j : ℕ) (v : V) (kept : Conns side_of m layout log words views)
      (at : get_elem? views j ≡ some v) (id : ConnId) (built : Contains (side_of v).builds id) where
    at_id : ((k.slot id.slot).inc ≡ id.inc) × ((k.slot id.slot).stage ≡ Building j)
    at_id = building_at (k.slot id.slot) id.inc j ((kept.each j v at).building id built)

    -- nobody else has to store its incarnation
    others_stored : (i : ℕ) (u : V) → i ≢ j → get_elem? views i ≡ some u → occurs id.slot (side_of u).unstored ≡ 0
    others_stored i u ne there = ⊎_elim (λ none. none) owes (occurs_or id.slot (side_of u).unstored)
      where
        owes : Contains (side_of u).unstored id.slot → occurs id.slot (side_of u).unstored ≡ 0
        owes c =
            let theirs = (kept.each i u there).owing id.slot c in
            let stage = (building_at (k.slot theirs.id.slot) theirs.id.inc i ((kept.each i u there).building theirs.id theirs.built)).1 in
            absurd (ne (one_builder (k.slot id.slot) i j (subst (λ slot. (k.slot slot).stage ≡ Building i) theirs.there stage) at_id.1))

    -- so the word is its incarnation, or the one before it where the pass has to store it
    pub inc_shown : id.slot < layout.slots → inc_word layout words id.slot + occurs id.slot (side_of v).unstored ≡ id.inc
    inc_shown h =
        let word = kept.incs id.slot h in
        let mine = sum_alone (λ (u : V). occurs id.slot (side_of u).unstored) views j v at others_stored in
        let last = at_id.0 in
        omega (arith, word, mine, last)

    -- the incarnation is stored
    module _ (within : id.slot < layout.slots) (w : V) (builds : (side_of w).builds ≡ (side_of v).builds) (stored : (side_of w).unstored ≡ others_than id.slot (side_of v).unstored) where
      abbrev words' : List ℕ
      words' = set words (field_at layout Slots id.slot inc_field) id.inc

      left_in : (slot : ℕ) → Contains (others_than id.slot (side_of v).unstored) slot → Contains (side_of v).unstored slot
      left_in slot c = ⊎_elim
          (λ (none : occurs slot (side_of v).unstored ≡ 0).
          let some' = stands_once slot (others_than id.slot (side_of v).unstored) c in
          absurd (⊎_elim
          (λ (e : slot ≡ id.slot). let no = ap (λ n. occurs n (others_than id.slot (side_of v).unstored)) e ∙ left_same id.slot (side_of v).unstored in omega (arith, no, some'))
          (λ (ne : slot ≢ id.slot). let same = left_others id.slot slot (side_of v).unstored ne in omega (arith, same, some', none))
          (cases_eq slot id.slot)))
          (λ c'. c')
          (occurs_or slot (side_of v).unstored)

      left_once : (slot : ℕ) → occurs slot (others_than id.slot (side_of v).unstored) ≤ 1
      left_once slot = ⊎_elim
          (λ (e : slot ≡ id.slot). let no = ap (λ n. occurs n (others_than id.slot (side_of v).unstored)) e ∙ left_same id.slot (side_of v).unstored in omega (arith, no))
          (λ (ne : slot ≢ id.slot). let same = left_others id.slot slot (side_of v).unstored ne in let once = (kept.each j v at).once slot in omega (arith, same, once))
          (cases_eq slot id.slot)

      fits : FitsBuilds k j (side_of w).builds (side_of w).unstored
      fits = subst (λ (y : List ConnId × List ℕ). FitsBuilds k j y.0 y.1) (λ t. (sym builds t, sym stored t)) (record {
        building = (kept.each j v at).building;
        owing = λ slot c. (kept.each j v at).owing slot (left_in slot c);
        once = left_once;
      })

      owed : (slot : ℕ) → unstored_by side_of (set views j w) slot + occurs slot (side_of v).unstored ≡ unstored_by side_of views slot + occurs slot (others_than id.slot (side_of v).unstored)
      owed slot =
          let more = sum-set (λ (u : V). occurs slot (side_of u).unstored) views j v w at in
          let one = ap (occurs slot) stored in
          omega (arith, more, one)

      pub conns-stored : field_at layout Slots id.slot inc_field < length words → Conns side_of m layout log words' (set views j w)
      conns-stored there = record {
        reach = length-set words (field_at layout Slots id.slot inc_field) id.inc ∙ kept.reach;
        legal = kept.legal;
        each = builds-set side_of k views j w fits kept.each;
        incs = λ slot h. ⊎_elim
            (λ (e : slot ≡ id.slot). subst (λ n. inc_word layout words' n + unstored_by side_of (set views j w) n ≡ (k.slot n).inc) (sym e) here)
            (λ (ne : slot ≢ id.slot). elsewhere slot h ne)
            (cases_eq slot id.slot);
      }
        where
          here : inc_word layout words' id.slot + unstored_by side_of (set views j w) id.slot ≡ (k.slot id.slot).inc
          here =
              let word = get_or-set_same words (field_at layout Slots id.slot inc_field) id.inc 0 there in
              let sums = owed id.slot in
              let left = left_same id.slot (side_of v).unstored in
              let mine = sum_alone (λ (u : V). occurs id.slot (side_of u).unstored) views j v at others_stored in
              let last = at_id.0 in
              omega (arith, word, sums, left, mine, last)

          elsewhere : (slot : ℕ) → slot < layout.slots → slot ≢ id.slot → inc_word layout words' slot + unstored_by side_of (set views j w) slot ≡ (k.slot slot).inc
          elsewhere slot h ne =
              let word = get_or-set_other words (field_at layout Slots id.slot inc_field) (field_at layout Slots slot inc_field) id.inc 0
              (λ e. inc_apart layout id.slot inc_field slot (omega arith) (λ same. absurd (ne (sym same))) (sym e)) in
              let sums = owed slot in
              let left = left_others id.slot slot (side_of v).unstored ne in
              let was = kept.incs slot h in
              omega (arith, word, sums, left, was)

-- two seats that build in one slot are one
pub builds_apart : {S A R V : Type 0} (side_of : V → PoolSide) (m : Meaning S A R) (layout : Layout)
    (log : List (Entry S A R)) (words : List ℕ) (views : List V) (i j : ℕ) (v w : V) (id other : ConnId) →
    Conns side_of m layout log words views → get_elem? views i ≡ some v → get_elem? views j ≡ some w → Contains (side_of v).builds id → Contains (side_of w).builds other → id.slot ≡ other.slot → i ≡ j
builds_apart side_of m layout log words views i j v w id other kept at there mine theirs same =
    let k = state_of m log in
    let first = (building_at (k.slot id.slot) id.inc i ((kept.each i v at).building id mine)).1 in
    let second = (building_at (k.slot other.slot) other.inc j ((kept.each j w there).building other theirs)).1 in
    one_builder (k.slot other.slot) i j (subst (λ slot. (k.slot slot).stage ≡ Building i) same first) second

pub builds_in_one_slot : {S A R : Type 0} (m : Meaning S A R) (layout : Layout) → BuildInOneSlot m layout
builds_in_one_slot m layout log words sides i j v w id other kept at there mine theirs same =
    builds_apart (λ x. x) m layout log words sides i j v w id other kept at there mine theirs same
