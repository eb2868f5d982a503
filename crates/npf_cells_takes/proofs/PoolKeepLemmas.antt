-- Kinds 7 to 9 keep the rule: each by its part and the frame of a step on a pool's word.
use Rattle.std.specs.{Int.{bit_at, bit_not, w64}, List.Contains}
use Rattle.std.proofs.Common.{◌≡◌, ◌≢◌, ℕ, ◌+◌, ◌*◌, ◌%◌, ◌^◌, ◌<◌, ◌≤◌, Bool, true, false, cond, eqb, eq-eqb, ne_eqb, List, [], ◌∷◌, set}
use Rattle.std.proofs.Common.{length, slice_index, refl, sym, ap, ◌∙◌, arith, length-set, bit_and, bit_or}
use Rattle.std.proofs.lemmas.{Bool.Decides.{Decides-eqb, not_from_Decides}, List.{get_or-set_other, set-get_or, Elements.Contains-append_right}}
use Rattle.std.proofs.lemmas.Nat.Bits.{bit_at-lt, bit_at_set_same, bit_at_set_other, bit_at_clear_same, bit_at_clear_other}
use mathlib.Core.Option.{some}
use lib.ListN.{get_elem?}
use Rattle.atomic_table.specs.Table.{State, Me, Step, Allows, stepped, keeps}
use Rattle.npf_types.specs.declared.key.Key.{Key}
use Rattle.npf_core.specs.{History.state_of, Machine.Machine, Meaning.Meaning}
use Rattle.npf_cells_words.specs.declared.layout.{Layout.Layout, Pool.{Pool, TheVariants.{Slots, Nodes}}}
use Rattle.npf_cells_words.specs.Layout.{pool_at, pool_words, pool_places, place_word, pool_bit}
use Rattle.npf_seats.{specs.Sums.{others_than, occurs}, proofs.ListLemmas.{one_where, occurs-cons, left_same, left_others, stands_once}}
use Rattle.npf_seats.proofs.SumLemmas.{sum-set, one_of_sum}
use Rattle.npf_cells_leaves.proofs.TrieLemmas.{knows_same}
use Rattle.npf_cells_lives.specs.{declared.pools.StoredWord.StoredWord, Pools.{node_owners, unfreed_owners, taken}, Stored.{IsOwnField, FitsStored}}
use Rattle.npf_cells_lives.proofs.PoolLemmas.{word_within, places_within, pools-same, pools-set, taken-set, unfreed-set}
use Rattle.npf_cells_lives.{proofs.StoredLemmas.{fits_unstored, own_same, stored_kept}, specs.Turns.Running}
use Rattle.npf_cells_rule.specs.{declared.view.CellView.CellView, Cells.IsCells, Stood.StoodSo, Views.pool_side}
use Rattle.npf_cells_rule.proofs.{Frames.{alone_still, IsPoolStep, pools_step, sight_step}, StoodLemmas.stood_so}
use Rattle.npf_cells_takes.proofs.SightLemmas.{seer, seer_stored, has_seen}
use Rattle.npf_cells_takes.specs.PoolKinds.{sweeping, claiming_node, giving_back, Sweeps, ClaimsNode, GivesNodeBack}

-- a step on the word of a place is one on the pools' words
pub pool_step : (layout : Layout) (words : List ℕ) (pool : Pool) (place n : ℕ) → place < pool_places layout pool → IsPoolStep layout words (place_word layout pool place) n
pool_step layout words pool place n within =
    let lies = word_within layout pool place (places_within layout pool place within) in record {
      before = λ j h. get_or-set_other words (place_word layout pool place) j n 0 (λ e. absurd (let low = lies.0 in omega (arith, e, h, low)));
      behind = λ j h. get_or-set_other words (place_word layout pool place) j n 0 (λ e. absurd (let high = lies.1 in omega (arith, e, h, high)));
    }

module _ {S A R : Type 0} (m : Meaning S A R) (digest : Key → ℕ) (layout : Layout) where
  -- a load of a word of the nodes, or of one of the slots, after which the pass has seen all of the history
  pub may_sweep : (st : Step (Running S)) (id n : ℕ) (pool : Pool) (word i : ℕ) (me : Me (Running S) (CellView S A R)) →
      me.0.seats.lives ≡ true → me.0.seats.theirs ≡ [] → 1 ≤ length me.0.seats.readers → i ≡ pool_at layout pool + word →
      Allows (IsCells m digest layout) n id me i (λ k. k) (Sweeps m digest layout pool word st me)
  may_sweep st id n Nodes word i me lives settled place there s kept homes at bound =
      let w : CellView S A R = record me.0 { pools = sweeping (pool_words layout.nodes) word me.0.pools (slice_index s.words i) } in
      let words = set-get_or s.words i 0 in (
        w,
        keeps,
        tt,
        pools_step m digest layout s i (slice_index s.words i) id me.1 me.0 w kept at refl refl (knows_same me.0.trie)
            (stored_kept layout s.words s.words me.0.pools w.pools (kept.stored id me.0 at) refl (own_same layout me.0.pools w.pools refl refl) (λ pool place field own. refl)) refl refl refl refl refl
            (alone_still me.0 w (kept.alone id me.0 at) place refl (λ none. none))
            (record { before = λ j h. ap (λ ws. slice_index ws j) words; behind = λ j h. ap (λ ws. slice_index ws j) words })
            (pools-same layout (taken pool_side kept.published (state_of m kept.log) s.views)
            (taken pool_side kept.published (state_of m kept.log) (set s.views id w)) s.words (set s.words i (slice_index s.words i)) kept.pools
            (length-set s.words i (slice_index s.words i)) (λ j h. ap (λ ws. slice_index ws j) words) (taken-set pool_side kept.published (state_of m kept.log) s.views id me.0 w at refl refl)),
        record { nodes = λ _. refl; slots = λ e. absurd cc; stood = stood_so m digest layout s id me.0 (pool_at layout Nodes + word) i kept at lives there },
      )
  may_sweep st id n Slots word i me lives settled place there s kept homes at bound =
      let w = seer m digest layout s id me kept at lives place (slice_index s.words i) in
      let words = set-get_or s.words i 0 in (
        w,
        keeps,
        tt,
        sight_step m digest layout s i (slice_index s.words i) id me.1 me.0 w kept at lives refl refl (knows_same me.0.trie)
            (seer_stored m digest layout s id me kept at lives place (slice_index s.words i)) refl refl refl refl refl
            (alone_still me.0 w (kept.alone id me.0 at) place refl (λ none. none))
            (record { before = λ j h. ap (λ ws. slice_index ws j) words; behind = λ j h. ap (λ ws. slice_index ws j) words })
            (pools-same layout (taken pool_side kept.published (state_of m kept.log) s.views)
            (taken pool_side kept.published (state_of m kept.log) (set s.views id w)) s.words (set s.words i (slice_index s.words i)) kept.pools
            (length-set s.words i (slice_index s.words i)) (λ j h. ap (λ ws. slice_index ws j) words) (taken-set pool_side kept.published (state_of m kept.log) s.views id me.0 w at refl refl)),
        record {
          nodes = λ e. absurd cc;
          slots = λ _. has_seen m digest layout s id me kept at lives place (slice_index s.words i) settled word i there refl;
          stood = stood_so m digest layout s id me.0 (pool_at layout Slots + word) i kept at lives there;
        },
      )

  -- a node's bit changes, and with it who owns the node
  module _ (s : State (Running S) (CellView S A R)) (id : ℕ) (me : Me (Running S) (CellView S A R)) (kept : IsCells m digest layout s)
      (at : get_elem? s.views id ≡ some me.0) (node : ℕ) (within : node < layout.nodes) where
    abbrev word : ℕ
    word = place_word layout Nodes node

    abbrev found : ℕ
    found = slice_index s.words word

    abbrev with_nodes : List ℕ → List StoredWord → CellView S A R
    with_nodes nodes stored = record me.0 { pools = record me.0.pools { found = found; nodes = nodes; stored = stored } }

    abbrev k : Machine S
    k = state_of m kept.log

    -- the node's bit says how many own it
    pub owned : bit_at found (node % 64) ≡ node_owners pool_side s.views node + unfreed_owners pool_side s.views node + occurs node kept.published
    owned = kept.pools.bits Nodes node within

    pub owners_after : (nodes : List ℕ) (stored : List StoredWord) (p : ℕ) →
        node_owners pool_side (set s.views id (with_nodes nodes stored)) p + occurs p me.0.pools.nodes ≡ node_owners pool_side s.views p + occurs p nodes
    owners_after nodes stored p = sum-set (λ (u : CellView S A R). occurs p u.pools.nodes) s.views id me.0 (with_nodes nodes stored) at

    pub unfreed_after : (nodes : List ℕ) (stored : List StoredWord) (p : ℕ) → unfreed_owners pool_side (set s.views id (with_nodes nodes stored)) p ≡ unfreed_owners pool_side s.views p
    unfreed_after nodes stored = unfreed-set pool_side s.views id me.0 (with_nodes nodes stored) at refl

    pub node_step : (n : ℕ) (nodes : List ℕ) (stored : List StoredWord) → FitsStored layout s.words (record me.0.pools { found = found; nodes = nodes; stored = stored }) →
        1 ≤ length me.0.seats.readers →
        bit_at n (node % 64) ≡ node_owners pool_side (set s.views id (with_nodes nodes stored)) node + unfreed_owners pool_side
        (set s.views id (with_nodes nodes stored)) node + occurs node kept.published →
        ((i : ℕ) → i < 64 → i ≢ node % 64 → bit_at n i ≡ bit_at found i) → ((p : ℕ) → p ≢ node → occurs p nodes ≡ occurs p me.0.pools.nodes) →
        IsCells m digest layout (stepped s word n id me.1 (with_nodes nodes stored) keeps)
    node_step n nodes stored fits place here bits others =
        pools_step m digest layout s word n id me.1 me.0 (with_nodes nodes stored) kept at refl refl (knows_same me.0.trie) fits refl refl refl refl refl
        (alone_still me.0 (with_nodes nodes stored) (kept.alone id me.0 at) place refl (λ none. none)) (pool_step layout s.words Nodes node n within)
        (pools-set layout (taken pool_side kept.published k s.views)
        (taken pool_side kept.published k (set s.views id (with_nodes nodes stored))) s.words Nodes node n kept.pools within here bits rest)
      where
        rest : (other : Pool) (p : ℕ) → (other ≡ Nodes → p ≢ node) →
            taken pool_side kept.published k (set s.views id (with_nodes nodes stored)) other p ≡ taken pool_side kept.published k s.views other p
        rest Slots p two = refl
        rest Nodes p two = let sums = owners_after nodes stored p in let back = unfreed_after nodes stored p in let same = others p (two refl) in omega (arith, sums, back, same)

  pub may_claim_node : (st : Step (Running S)) (id n node mask : ℕ) (me : Me (Running S) (CellView S A R)) → me.0.seats.lives ≡ true →
      1 ≤ length me.0.seats.readers → node < layout.nodes → mask ≡ 1 * 2 ^ (node % 64) % 2 ^ 64 →
      Allows (IsCells m digest layout) n id me (place_word layout Nodes node) (λ k. bit_or k mask) (ClaimsNode m digest layout node st me)
  may_claim_node st id n node mask me lives place within is s kept homes at bound = rw is (
    record me.0 { pools = claiming_node node me.0.pools (found s id me kept at node within) },
    keeps,
    tt,
    by_bit (eqb (bit_at (found s id me kept at node within) (node % 64)) 0) refl,
    record { is = refl; stood = stood_so m digest layout s id me.0 (place_word layout Nodes node) (place_word layout Nodes node) kept at lives refl },
  )
    where
      by_bit : (b : Bool) → eqb (bit_at (found s id me kept at node within) (node % 64)) 0 ≡ b →
          IsCells m digest layout (stepped s (place_word layout Nodes node) (bit_or (found s id me kept at node within) (1 * 2 ^ (node % 64) % 2 ^ 64)) id me.1
          (with_nodes s id me kept at node within (cond b (node ∷ me.0.pools.nodes) me.0.pools.nodes) me.0.pools.stored) keeps)
      by_bit b e = node_step s id me kept at node within (bit_or (found s id me kept at node within) (1 * 2 ^ (node % 64) % 2 ^ 64))
          (cond b (node ∷ me.0.pools.nodes) me.0.pools.nodes) me.0.pools.stored (claimer_fits b) place
          (bit_at_set_same w64 (found s id me kept at node within) (node % 64) (omega arith) ∙ sym (one b e))
          (λ i h ne. bit_at_set_other w64 (found s id me kept at node within) (node % 64) (omega arith) i ne) (others b)
        where
          claimer_fits : (b : Bool) →
              FitsStored layout s.words (record me.0.pools { found = found s id me kept at node within; nodes = cond b (node ∷ me.0.pools.nodes) me.0.pools.nodes; stored = me.0.pools.stored })
          claimer_fits b = stored_kept layout s.words s.words me.0.pools (record me.0.pools {
            found = found s id me kept at node within;
            nodes = cond b (node ∷ me.0.pools.nodes) me.0.pools.nodes;
          }) (kept.stored id me.0 at) refl (owns_more b) (λ pool place field own. refl)
            where
              owns_more : (b : Bool) (pool : Pool) (place field : ℕ) → IsOwnField layout me.0.pools pool place field →
                  IsOwnField layout (record me.0.pools { found = found s id me kept at node within; nodes = cond b (node ∷ me.0.pools.nodes) me.0.pools.nodes }) pool place field
              owns_more b Slots place field own = own
              owns_more true Nodes place field own = (Contains-append_right (node ∷ []) me.0.pools.nodes place own.0, own.1, own.2, own.3)
              owns_more false Nodes place field own = own

          one : (b : Bool) → eqb (bit_at (found s id me kept at node within) (node % 64)) 0 ≡ b →
              node_owners pool_side (set s.views id (with_nodes s id me kept at node within (cond b (node ∷ me.0.pools.nodes) me.0.pools.nodes) me.0.pools.stored)) node + unfreed_owners pool_side
              (set s.views id (with_nodes s id me kept at node within (cond b (node ∷ me.0.pools.nodes) me.0.pools.nodes) me.0.pools.stored)) node + occurs node kept.published ≡ 1
          one true e =
              let none : bit_at (found s id me kept at node within) (node % 64) ≡ 0 = (Decides-eqb _ _).0 e in
              let bit = owned s id me kept at node within in
              let sums = owners_after s id me kept at node within (node ∷ me.0.pools.nodes) me.0.pools.stored node in
              let back = unfreed_after s id me kept at node within (node ∷ me.0.pools.nodes) me.0.pools.stored node in
              let more = occurs-cons node node me.0.pools.nodes in
              let once : one_where (eqb node node) ≡ 1 = ap one_where (eq-eqb node node refl) in
              omega (arith, none, bit, sums, back, more, once)
          one false e =
              let some' : bit_at (found s id me kept at node within) (node % 64) ≢ 0 = not_from_Decides _ (Decides-eqb (bit_at (found s id me kept at node within) (node % 64)) 0) e in
              let below = bit_at-lt (found s id me kept at node within) (node % 64) in
              let bit = owned s id me kept at node within in
              let sums = owners_after s id me kept at node within me.0.pools.nodes me.0.pools.stored node in
              let back = unfreed_after s id me kept at node within me.0.pools.nodes me.0.pools.stored node in
              omega (arith, some', below, bit, sums, back)

          others : (b : Bool) (p : ℕ) → p ≢ node → occurs p (cond b (node ∷ me.0.pools.nodes) me.0.pools.nodes) ≡ occurs p me.0.pools.nodes
          others true p ne =
              let more = occurs-cons p node me.0.pools.nodes in
              let none : one_where (eqb node p) ≡ 0 = ap one_where (ne_eqb node p (λ e. ne (sym e))) in
              omega (arith, more, none)
          others false p ne = refl

  pub may_return_node : (st : Step (Running S)) (id n node mask : ℕ) (me : Me (Running S) (CellView S A R)) → me.0.seats.lives ≡ true →
      1 ≤ length me.0.seats.readers → node < layout.nodes → Contains me.0.pools.nodes node → mask ≡ bit_not w64 (1 * 2 ^ (node % 64) % 2 ^ 64) →
      Allows (IsCells m digest layout) n id me (place_word layout Nodes node) (λ k. bit_and k mask) (GivesNodeBack m digest layout node st me)
  may_return_node st id n node mask me lives place within owns is s kept homes at bound = rw is (
    record me.0 { pools = giving_back node me.0.pools (found s id me kept at node within) },
    keeps,
    tt,
    node_step s id me kept at node within (bit_and (found s id me kept at node within) (bit_not w64 (1 * 2 ^ (node % 64) % 2 ^ 64)))
        (others_than node me.0.pools.nodes) [] (fits_unstored layout s.words (giving_back node me.0.pools (found s id me kept at node within)) refl) place
        (bit_at_clear_same w64 (found s id me kept at node within) (node % 64) (omega arith) ∙ sym none)
        (λ i h ne. bit_at_clear_other w64 (found s id me kept at node within) (node % 64) (omega arith) i h ne) (λ p ne. left_others node p me.0.pools.nodes ne),
    record { is = refl; stood = stood_so m digest layout s id me.0 (place_word layout Nodes node) (place_word layout Nodes node) kept at lives refl },
  )
    where
      none : node_owners pool_side (set s.views id (with_nodes s id me kept at node within (others_than node me.0.pools.nodes) [])) node + unfreed_owners pool_side
          (set s.views id (with_nodes s id me kept at node within (others_than node me.0.pools.nodes) [])) node + occurs node kept.published ≡ 0
      none =
          let below = bit_at-lt (found s id me kept at node within) (node % 64) in
          let bit = owned s id me kept at node within in
          let sums = owners_after s id me kept at node within (others_than node me.0.pools.nodes) [] node in
          let back = unfreed_after s id me kept at node within (others_than node me.0.pools.nodes) [] node in
          let left = left_same node me.0.pools.nodes in
          let one = stands_once node me.0.pools.nodes owns in
          omega (arith, below, bit, sums, back, left, one)

-- a node whose bit was clear is none that the seat owns
pub not_owned : {S A R : Type 0} (m : Meaning S A R) (digest : Key → ℕ) (layout : Layout) (v : CellView S A R) (node found : ℕ) → node < layout.nodes →
    StoodSo m digest layout v (place_word layout Nodes node) found → bit_at found (node % 64) ≡ 0 → Contains v.pools.nodes node → ⊥
not_owned {S} {A} {R} m digest layout v node found within stood clear owns =
    let bit = stood.rule.pools.bits Nodes node within in
    let none : pool_bit layout Nodes stood.state.words node ≡ 0 = ap (λ n. bit_at n (node % 64)) stood.there ∙ clear in
    let mine = one_of_sum (λ (u : CellView S A R). occurs node u.pools.nodes) stood.state.views v.seats.number v stood.seated in
    let one = stands_once node v.pools.nodes owns in
    omega (arith, bit, none, mine, one)
