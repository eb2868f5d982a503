-- The part on deaths stays through steps that leave its words and what the seat killed, and after which the seat rests on nothing more.
use Rattle.std.specs.List.{Contains}
use Rattle.std.proofs.Common.{◌≡◌, ◌⊎◌, ℕ, ◌<◌, ◌≤◌, Option, Some, None, List, set, slice_index, refl, sym, ap, ◌∙◌, subst, ⊎_elim, inl, inr, arith}
use Rattle.std.proofs.lemmas.List.{set-get_or}
use mathlib.Core.Option.{some}
use lib.ListN.{get_elem?}
use Rattle.atomic_table.specs.Table.{State}
use Rattle.npf_types.specs.declared.key.Key.{Key}
use Rattle.npf_core.specs.{declared.{conn_id.ConnId.ConnId, found.Found.Found}, History.state_of, Machine.Machine, Meaning.Meaning}
use Rattle.npf_cells_words.specs.{declared.layout.{Layout.Layout, Pool.TheVariants.Slots}, Layout.{epoch_word, root_at, field_at, notes_field}}
use Rattle.npf_cells_words.proofs.WordLemmas.{field_behind}
use Rattle.npf_seats.{specs.Sums.occurs, proofs.{PrefixLemmas.none_listed, SumLemmas.sum-set}}
use Rattle.npf_cells_leaves.{specs.{declared.trie.LoadedLeaf.LoadedLeaf, Trie.HasNoWalk}, proofs.TrieLemmas.KnowsNoMore}
use Rattle.npf_cells_lives.specs.{Deaths.{DeathSide, Rests, IsKeyless, is_dead, first_note, slots_named, Deaths}, Turns.Running, Known.{FitsKnown, Known}}
use Rattle.npf_cells_lives.proofs.{DeathLemmas.{Spares, spares_all, stays_dead, RestsNoMore, same_dates, deaths-same}, FreedLemmas.gone_in}
use Rattle.npf_cells_lives.proofs.KnownLemmas.{known_now, known_on, known-spared}
use Rattle.npf_cells_rule.specs.{declared.view.CellView.CellView, Cells.IsCells}
use Rattle.npf_cells_rule.specs.Views.{protecting_epoch, leaf_id, DeadHand, dead_hand, death_side, pool_side, seen_side}

leaf_less : (mine theirs : Option LoadedLeaf) → ((leaf : LoadedLeaf) → theirs ≡ Some leaf → mine ≡ Some leaf) → (id : ConnId) → leaf_id theirs ≡ Some id → leaf_id mine ≡ Some id
leaf_less mine None less id e = absurd cc
leaf_less mine (Some leaf) less id e = ap leaf_id (less leaf refl) ∙ e

-- a seat rests on nothing more where what is new holds a key
pub rests_or_holds : {S : Type 0} (k : Machine S) (v w : DeathSide) → w.protecting ≡ v.protecting → ((i : ConnId) → Rests w i → Rests v i ⊎ ¬ (IsKeyless k i)) → RestsNoMore k v w
rests_or_holds k v w same so = record { rests = λ i dead bare rests. (⊎_elim (λ old. old) (λ no. absurd (no bare)) (so i rests), same) }

pub holder_keyed : {S : Type 0} (k : Machine S) (key : Key) (found : Found) → k.holder key ≡ Some found → ¬ (IsKeyless k found.id)
holder_keyed k key found held bare = bare found.way key held

module _ {S A R : Type 0} where
  -- a seat that knows no more of the trie rests on nothing more
  pub rests_less : (k : Machine S) (v w : CellView S A R) → KnowsNoMore v.trie w.trie → w.epochs.pin ≡ v.epochs.pin → RestsNoMore k (death_side v) (death_side w)
  rests_less k v w less pin = record {
    rests = λ id dead bare rests. (
      ⊎_elim (λ c. inl (less.answered id c)) (λ e. inr (leaf_less v.trie.leaf w.trie.leaf less.leaf id e)) rests,
      ap protecting_epoch pin,
    );
  }

  -- one that walked nowhere rests on nothing
  pub rests_on_none : (v : CellView S A R) → HasNoWalk v.trie → (id : ConnId) → ¬ (Rests (death_side v) id)
  rests_on_none v none id rests = ⊎_elim
      (λ (c : Contains v.trie.answered id). none_listed id (subst (λ ids. Contains ids id) none.answered c))
      (λ (e : leaf_id v.trie.leaf ≡ Some id). (let no : None ≡ Some id = sym (ap leaf_id none.leaf) ∙ e in absurd cc))
      rests

  pub rests_none : (k : Machine S) (v w : CellView S A R) → HasNoWalk w.trie → RestsNoMore k (death_side v) (death_side w)
  rests_none k v w none = record { rests = λ id dead bare rests. absurd (rests_on_none w none id rests) }

module _ {S A R : Type 0} (m : Meaning S A R) (digest : Key → ℕ) (layout : Layout) where
  -- the connections may change, if the dead are spared
  pub deaths_spared : (s : State (Running S) (CellView S A R)) (i n id : ℕ) (v w : CellView S A R) (k' : Machine S) (kept : IsCells m digest layout s) →
      get_elem? s.views id ≡ some v → dead_hand w.pools ≡ dead_hand v.pools → w.epochs.loaded ≡ v.epochs.loaded →
      Spares (state_of m kept.log) k' → ((slot : ℕ) → is_dead (k'.slot slot).stage ≡ is_dead ((state_of m kept.log).slot slot).stage) →
      RestsNoMore (state_of m kept.log) (death_side v) (death_side w) → epoch_word s.words ≤ epoch_word (set s.words i n) →
      ((slot : ℕ) → slot < layout.slots → first_note layout (set s.words i n) slot ≡ first_note layout s.words slot) → Deaths death_side layout k' (set s.words i n) (set s.views id w)
  deaths_spared s i n id v w k' kept at kills loaded spares dead less goes notes =
      deaths-same death_side layout (state_of m kept.log) k' s.words (set s.words i n) s.views id v w kept.deaths at spares goes less
      (ap (λ (h : DeadHand). h.kills) kills) (ap (λ (h : DeadHand). h.reclaims) kills) (ap (λ (h : DeadHand). h.cleared) kills)
      (same_dates death_side layout (state_of m kept.log) s.words (set s.words i n) s.views id v w kept.deaths at goes (ap (λ (h : DeadHand). h.dated) kills))
      (λ conn c. loaded) notes (λ slot h. dead slot)

  -- where they stay, and so do the first notes
  pub deaths_on : (s : State (Running S) (CellView S A R)) (i n id : ℕ) (v w : CellView S A R) (kept : IsCells m digest layout s) →
      get_elem? s.views id ≡ some v → dead_hand w.pools ≡ dead_hand v.pools → w.epochs.loaded ≡ v.epochs.loaded →
      RestsNoMore (state_of m kept.log) (death_side v) (death_side w) → epoch_word s.words ≤ epoch_word (set s.words i n) →
      ((slot : ℕ) → slot < layout.slots → first_note layout (set s.words i n) slot ≡ first_note layout s.words slot) →
      Deaths death_side layout (state_of m kept.log) (set s.words i n) (set s.views id w)
  deaths_on s i n id v w kept at kills loaded less goes notes =
      deaths_spared s i n id v w (state_of m kept.log) kept at kills loaded (spares_all (state_of m kept.log)) (λ slot. refl) less goes notes

  -- which is so where the words behind the pools' stay
  pub deaths_apart : (s : State (Running S) (CellView S A R)) (i n id : ℕ) (v w : CellView S A R) (kept : IsCells m digest layout s) →
      get_elem? s.views id ≡ some v → dead_hand w.pools ≡ dead_hand v.pools → w.epochs.loaded ≡ v.epochs.loaded →
      RestsNoMore (state_of m kept.log) (death_side v) (death_side w) → epoch_word s.words ≤ epoch_word (set s.words i n) →
      ((j : ℕ) → root_at layout ≤ j → slice_index (set s.words i n) j ≡ slice_index s.words j) →
      Deaths death_side layout (state_of m kept.log) (set s.words i n) (set s.views id w)
  deaths_apart s i n id v w kept at kills loaded less goes words =
      deaths_on s i n id v w kept at kills loaded less goes (λ slot h. words (field_at layout Slots slot notes_field) (field_behind layout Slots slot notes_field))

  -- and by a load
  pub deaths_load : (s : State (Running S) (CellView S A R)) (i id : ℕ) (v w : CellView S A R) (kept : IsCells m digest layout s) →
      get_elem? s.views id ≡ some v → dead_hand w.pools ≡ dead_hand v.pools → w.epochs.loaded ≡ v.epochs.loaded →
      RestsNoMore (state_of m kept.log) (death_side v) (death_side w) → Deaths death_side layout (state_of m kept.log) (set s.words i (slice_index s.words i)) (set s.views id w)
  deaths_load s i id v w kept at kills loaded less =
      deaths_apart s i (slice_index s.words i) id v w kept at kills loaded less (let same : epoch_word (set s.words i (slice_index s.words i)) ≡ epoch_word s.words =
      ap epoch_word (set-get_or s.words i 0) in omega (arith, same))
      (λ j h. ap (λ ws. slice_index ws j) (set-get_or s.words i 0))

  -- as many slots are reclaimed where the seat has the same dead connections
  pub gone_same : (views : List (CellView S A R)) (id : ℕ) (v w : CellView S A R) → get_elem? views id ≡ some v →
      dead_hand w.pools ≡ dead_hand v.pools → (slot : ℕ) → gone_in death_side (set views id w) slot ≡ gone_in death_side views slot
  gone_same views id v w at hand slot =
      let one = sum-set (λ (u : CellView S A R). occurs slot (slots_named u.pools.reclaims)) views id v w at in
      let two = sum-set (λ (u : CellView S A R). occurs slot (slots_named u.pools.cleared)) views id v w at in
      let same = ap (λ (h : DeadHand). occurs slot (slots_named h.reclaims)) hand in
      let also = ap (λ (h : DeadHand). occurs slot (slots_named h.cleared)) hand in
      omega (arith, one, two, same, also)

  -- what seats know of their kills stays where the dead are spared, and one kills nothing more and has seen as much
  pub known_apart : (s : State (Running S) (CellView S A R)) (id : ℕ) (v w : CellView S A R) (k' : Machine S) (kept : IsCells m digest layout s) →
      get_elem? s.views id ≡ some v → ((conn : ConnId) → Contains w.pools.kills conn → Contains v.pools.kills conn) → w.seats.history ≡ v.seats.history →
      Spares (state_of m kept.log) k' → Known (seen_side m) pool_side k' (set s.views id w)
  known_apart s id v w k' kept at kills history spares =
      known-spared (seen_side m) pool_side (state_of m kept.log) k' s.views id w kept.known spares (λ j u conn e c. (kept.deaths.kills j u conn e c).dead)
      (λ conn c. (let mine = kills conn c in let dead = (kept.deaths.kills id v conn at mine).dead in
      subst (λ h. FitsKnown (state_of m h) k' conn) (sym history)
      (known_on (seen_side m v) (state_of m kept.log) k' conn (spares.held conn dead) (spares.back conn dead) (kept.known id v conn at mine))))

  -- and where it has seen all
  pub known_seen : (s : State (Running S) (CellView S A R)) (id : ℕ) (v w : CellView S A R) (k' : Machine S) (kept : IsCells m digest layout s) →
      get_elem? s.views id ≡ some v → ((conn : ConnId) → Contains w.pools.kills conn → Contains v.pools.kills conn) → state_of m w.seats.history ≡ k' →
      Spares (state_of m kept.log) k' → Known (seen_side m) pool_side k' (set s.views id w)
  known_seen s id v w k' kept at kills all spares = known-spared (seen_side m) pool_side (state_of m kept.log) k' s.views id w kept.known spares (λ j u conn e c. (kept.deaths.kills j u conn e c).dead)
      (λ conn c. subst (λ k. FitsKnown k k' conn) (sym all) (known_now k' conn (stays_dead (state_of m kept.log) k' spares conn (kept.deaths.kills id v conn at (kills conn c)).dead)))
