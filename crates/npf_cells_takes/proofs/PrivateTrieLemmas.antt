-- Stores in the words of a pass's own places leave the trie as it is.
use Rattle.std.specs.List.{Contains}
use Rattle.std.proofs.Common.{◌≡◌, ◌≢◌, ◌⊎◌, ℕ, ◌+◌, ◌<◌, true, Some, [], ◌∷◌, set, length, slice_index, refl, sym, ap, ◌∙◌, subst, ⊎_elim, arith}
use Rattle.std.proofs.lemmas.{Bool.cases_eq, List.{get_or-set_same, get_or-set_other}}
use mathlib.Core.Option.{some}
use lib.ListN.{get_elem?}
use Rattle.atomic_table.{specs.Table.State, proofs.Lists.at_map}
use Rattle.npf_types.specs.declared.key.{Key.Key, Way.Way}
use Rattle.npf_core.specs.{declared.{conn_id.ConnId.ConnId, stage.Stage.TheVariants.{Building, Dead}}, History.state_of, Machine.Machine, Meaning.Meaning}
use Rattle.npf_core.proofs.{EqualityLemmas.same_conn_id, HolderLemmas.holders_claimed, LifeLemmas.IsClaimed-last}
use Rattle.npf_cells_words.specs.{declared.layout.{Layout.Layout, Pool.TheVariants.{Slots, Nodes}}, Layout.{inc_field, parent_field, key_field, field_at}}
use Rattle.npf_cells_words.{specs.Places.place_at, proofs.WordLemmas.key_short}
use Rattle.npf_seats.specs.Seats.{IsNumbered}
use Rattle.npf_cells_leaves.{specs.Trie.{key_word, TrieWords, trie_words, leaf_found, IsRightLeaf}, proofs.TrieLemmas.{KeepsTrie, cell_same}}
use Rattle.npf_cells_lives.{specs.{Conns.entry_seat, Turns.Running}, proofs.{BuiltLemmas.bare_in_log, ConnLemmas.building_at}}
use Rattle.npf_cells_rule.{specs.{declared.view.CellView.CellView, Cells.IsCells, Views.seat_side}, proofs.MetLemmas.{met_at, unowned}}
use Rattle.npf_cells_takes.specs.PrivateKinds.{MayStoreInSlot}

module _ {S A R : Type 0} (m : Meaning S A R) (digest : Key → ℕ) (layout : Layout) (s : State (Running S) (CellView S A R)) (kept : IsCells m digest layout s) where
  abbrev k : Machine S
  k = state_of m kept.log

  abbrev t : TrieWords
  t = trie_words layout s.words

  -- a store in a node that the pass owns
  pub node_keeps : (id : ℕ) (v : CellView S A R) (node field n : ℕ) → get_elem? s.views id ≡ some v → node < layout.nodes → field < 18 → Contains v.pools.nodes node →
      KeepsTrie layout.slots k k t (trie_words layout (set s.words (field_at layout Nodes node field) n))
  node_keeps id v node field n at within short owns = record {
    holder = λ key. refl;
    claimed = λ identity c. c;
    dead = λ identity e. e;
    cells = λ digits are level p on. cell_same layout s.words _ p (other (place_at layout p) (λ e. ⊎_elim
        (λ low. absurd (omega (arith, low, e)))
        (λ x. let same : x.0 ≡ node = (let there = x.2 in let d = x.3 in omega (arith, there, d, short, e)) in
        unowned m digest layout s kept id v node at within owns (subst (Contains kept.published) same x.5))
        (met_at m digest layout s kept digits level p are on)));
    parents = λ digits level p other_node are on is. other (field_at layout Nodes other_node parent_field) (λ e.
        let right = kept.trie.nodes digits level p other_node are on is in
        let same : other_node ≡ node = omega (arith, short, e) in
        unowned m digest layout s kept id v node at within owns (subst (Contains kept.published) same right.published_once));
    keys = λ slot way right. λ i. record { 0 = key_same slot way 0 i ∷ key_same slot way 1 i ∷ key_same slot way 2 i ∷ key_same slot way 3 i ∷ key_same slot way 4 i ∷ [] };
    incs = λ slot way right. other (field_at layout Slots slot inc_field) (λ e. absurd (omega (arith, e, within, short)));
  }
    where
      other : (j : ℕ) → j ≢ field_at layout Nodes node field → slice_index (set s.words (field_at layout Nodes node field) n) j ≡ slice_index s.words j
      other j ne = get_or-set_other s.words (field_at layout Nodes node field) j n 0 ne

      key_same : (slot : ℕ) (way : Way) (place : ℕ) → key_word layout (set s.words (field_at layout Nodes node field) n) slot way place ≡ key_word layout s.words slot way place
      key_same slot way place = other (field_at layout Slots slot (key_field way + place)) (λ e. absurd (omega (arith, e, within, short)))

  -- a leaf that is right in a slot where the pass is building is of that connection
  pub own_leaf : (id : ℕ) (v : CellView S A R) (conn : ConnId) (way : Way) → get_elem? s.views id ≡ some v → Contains v.pools.builds conn → IsRightLeaf layout.slots k.holder t conn.slot way →
      (t.inc conn.slot ≡ conn.inc) × (k.holder (t.key conn.slot way) ≡ Some (record { id = conn; way = way }))
  own_leaf id v conn way at built right =
      let claimed = holders_claimed m layout.slots kept.log kept.connections.legal (t.key conn.slot way) (leaf_found t conn.slot way) right.held in
      let last = IsClaimed-last (k.slot conn.slot) (t.inc conn.slot) claimed in
      let mine = (building_at (k.slot conn.slot) conn.inc id ((kept.connections.each id v at).building conn built)).0 in
      let same : t.inc conn.slot ≡ conn.inc = sym last ∙ mine in
      (same, right.held ∙ ap (λ (i : ConnId). Some (record { id = i; way = way })) (same_conn_id (record { slot = conn.slot; inc = t.inc conn.slot }) conn (refl, same)))

  -- a store in a connection that the pass is building
  pub slot_keeps : (id : ℕ) (v : CellView S A R) (slot field n : ℕ) → get_elem? s.views id ≡ some v → v.seats.lives ≡ true →
      slot < layout.slots → field < 21 → field_at layout Slots slot field < length s.words →
      MayStoreInSlot m v slot field n → KeepsTrie layout.slots k k t (trie_words layout (set s.words (field_at layout Slots slot field) n))
  slot_keeps id v slot field n at lives within short there may = record {
    holder = λ key. refl;
    claimed = λ identity c. c;
    dead = λ identity e. e;
    cells = λ digits are level p on. cell_same layout s.words _ p (other (place_at layout p) (λ e. ⊎_elim
        (λ low. absurd (omega (arith, low, e)))
        (λ x. absurd (let lies = x.2 in let d = x.3 in let n' = x.4 in omega (arith, lies, d, n', e)))
        (met_at m digest layout s kept digits level p are on)));
    parents = λ digits level p node are on is. other (field_at layout Nodes node parent_field)
        (λ e. absurd (let in' = (kept.trie.nodes digits level p node are on is).exists in omega (arith, in', e)));
    keys = λ p way right. λ i. record {
      0 = key_same p way right 0 (omega arith) i ∷ key_same p way right 1 (omega arith) i ∷
          key_same p way right 2 (omega arith) i ∷ key_same p way right 3 (omega arith) i ∷ key_same p way right 4 (omega arith) i ∷ [];
    };
    incs = inc_same;
  }
    where
      fits : IsNumbered entry_seat kept.log id v.seats
      fits = (kept.seats.each id v.seats (at_map seat_side s.views id v at)).lives lives

      other : (j : ℕ) → j ≢ field_at layout Slots slot field → slice_index (set s.words (field_at layout Slots slot field) n) j ≡ slice_index s.words j
      other j ne = get_or-set_other s.words (field_at layout Slots slot field) j n 0 ne

      -- a right leaf of this slot is of the connection that is being built
      mine : (p : ℕ) (way : Way) → p ≡ slot → IsRightLeaf layout.slots k.holder t p way →
          (t.inc may.id.slot ≡ may.id.inc) × (k.holder (t.key may.id.slot way) ≡ Some (record { id = may.id; way = way }))
      mine p way e right = own_leaf id v may.id way at may.built (subst (λ q. IsRightLeaf layout.slots k.holder t q way) (e ∙ sym may.there) right)

      -- so no word of its key is stored in
      not_key : (way : Way) (place : ℕ) → place < 5 → IsRightLeaf layout.slots k.holder t slot way → field ≢ key_field way + place
      not_key way place h right e =
          let bare = may.keyless way (omega (arith, e)) (omega (arith, e, h)) in
          let stage = (kept.connections.each id v at).building may.id may.built in
          let seen = (kept.seats.each id v.seats (at_map seat_side s.views id v at)).seen in
          bare_in_log m layout.slots v.seats.history kept.log id may.id way kept.connections.legal seen fits.own stage bare (t.key may.id.slot way) (mine slot way refl right).1

      -- nor is the slot that of a Dead connection
      alive : (k.slot slot).stage ≢ Dead
      alive dead =
          let built = building_at (k.slot may.id.slot) may.id.inc id ((kept.connections.each id v at).building may.id may.built) in
          let no : Building id ≡ Dead = sym built.1 ∙ (ap (λ q. (k.slot q).stage) may.there ∙ dead) in
          absurd cc

      key_same : (p : ℕ) (way : Way) → IsRightLeaf layout.slots k.holder t p way ⊎ ((k.slot p).stage ≡ Dead) → (place : ℕ) → place < 5 →
          key_word layout (set s.words (field_at layout Slots slot field) n) p way place ≡ key_word layout s.words p way place
      key_same p way right place h = other (field_at layout Slots p (key_field way + place)) (λ e. ⊎_elim
          (λ (same : p ≡ slot). ⊎_elim
          (λ (is : IsRightLeaf layout.slots k.holder t p way). not_key way place h (subst (λ q. IsRightLeaf layout.slots k.holder t q way) same is) (omega (arith, e, same)))
          (λ (dead : (k.slot p).stage ≡ Dead). alive (ap (λ q. (k.slot q).stage) (sym same) ∙ dead))
          right)
          (λ (ne : p ≢ slot). absurd (ne (let low = key_short way place h in omega (arith, e, low, short))))
          (cases_eq p slot))

      right_inc : (p : ℕ) (way : Way) → IsRightLeaf layout.slots k.holder t p way →
          slice_index (set s.words (field_at layout Slots slot field) n) (field_at layout Slots p inc_field) ≡ slice_index s.words (field_at layout Slots p inc_field)
      right_inc p way right = ⊎_elim
          (λ (same : field_at layout Slots p inc_field ≡ field_at layout Slots slot field).
          let at_slot : p ≡ slot = omega (arith, same, short) in
          let at_inc : field ≡ inc_field = omega (arith, same, at_slot) in
          let stored = get_or-set_same s.words (field_at layout Slots slot field) n 0 there in
          let is = (mine p way at_slot right).0 in
          ap (slice_index (set s.words (field_at layout Slots slot field) n)) same
          ∙ (stored ∙ (may.inc at_inc ∙ (sym is ∙ ap (λ q. slice_index s.words (field_at layout Slots q inc_field)) (may.there ∙ sym at_slot)))))
          (λ ne. other (field_at layout Slots p inc_field) ne)
          (cases_eq (field_at layout Slots p inc_field) (field_at layout Slots slot field))

      inc_same : (p : ℕ) (way : Way) → IsRightLeaf layout.slots k.holder t p way ⊎ ((k.slot p).stage ≡ Dead) →
          slice_index (set s.words (field_at layout Slots slot field) n) (field_at layout Slots p inc_field) ≡ slice_index s.words (field_at layout Slots p inc_field)
      inc_same p way right = ⊎_elim
          (λ (is : IsRightLeaf layout.slots k.holder t p way). right_inc p way is)
          (λ (dead : (k.slot p).stage ≡ Dead). other (field_at layout Slots p inc_field) (λ e. alive (ap (λ q. (k.slot q).stage) (let same : slot ≡ p = omega (arith, e, short) in same) ∙ dead)))
          right
