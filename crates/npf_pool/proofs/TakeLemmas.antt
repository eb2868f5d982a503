-- Sweeps of a pool's words.
use Rattle.std.proofs.Common.{◌≡◌, ◌≢◌, ℕ, ◌+◌, ◌-◌, ◌*◌, ◌/◌, ◌%◌, ◌^◌, ◌<◌, ◌≤◌, cond, eqb, eq-eqb, ne_eqb, min, Some, List, [], ◌∷◌, slice_index}
use Rattle.std.{proofs.Common.{refl, sym, ap, ◌∙◌, subst, ⊎_elim, arith, append-nil, length, Option, None, IfNone}, specs.Int.bit_at}
use Rattle.std.proofs.lemmas.{Bool.{cases_eq, cases_lt}, Nat.Bits.bit_at_mask_inside}
use Rattle.atomic_table.specs.Table.{Me}
use Rattle.npf_types.specs.declared.key.Key.{Key}
use Rattle.npf_core.specs.declared.{act.Act.TheVariants.Claim, entry.Entry.Entry, reply.Reply.TheVariants.ToClaim, stage.Stage.Stage}
use Rattle.npf_core.specs.{declared.stage.Stage.TheVariants.{Vacant, Building, Live, Dead}, History.{IsPrefix, state_of}, Machine.IsClaimed, Meaning.Meaning}
use Rattle.npf_core.proofs.HistoryLemmas.{IsPrefix-self, IsPrefix-trans}
use Rattle.npf_connections.specs.{Adding.{Adds, EndsWith}, Beginning.{IsClaimedBetween, IsFullBetween}, Entries.claim_entries, Pass.Pass}
use Rattle.npf_connections.proofs.AddLemmas.{adds_more}
use Rattle.npf_cells_words.specs.{declared.layout.{Layout.Layout, Pool.{Pool, TheVariants.{Slots, Nodes}}}, Layout.{pool_at, pool_places, pool_words}}
use Rattle.npf_cells_lives.specs.Pools.{claim_bit}
use Rattle.npf_cells_rule.specs.{declared.view.CellView.CellView, Passes.cell_pass, Stood.StoodSo, Views.with_pools}
use Rattle.npf_cells_takes.specs.{PoolKinds.{NeedsNode, row_after, sweeping}, SlotKinds.{claiming_slot, seeing_slots, HasClaimed, HasSeenSlots}}
use Rattle.npf_pool.specs.Takes.{searching, having_swept, StoodFull, HasSeenMore}

-- a full word goes on with the row, any other breaks it off
row_grows : (row word : ℕ) → (1 ≤ word → row ≡ word) → row_after row word (2 ^ 64 - 1) ≡ word + 1
row_grows row word so = ⊎_elim
    (λ (e : word ≡ 0). ap (λ b. cond b 1 (cond (eqb word row) (row + 1) 0)) (eq-eqb word 0 e) ∙ omega (arith, e))
    (λ ne.
    let r : row ≡ word = so (omega (arith, ne)) in
    ap (λ b. cond b 1 (cond (eqb word row) (row + 1) 0)) (ne_eqb word 0 ne) ∙ ap (λ b. cond b (row + 1) 0) (eq-eqb word row (sym r)) ∙ ap (λ n. n + 1) r)
    (cases_eq word 0)

row_breaks : (row word found : ℕ) → found ≢ 2 ^ 64 - 1 → row_after row word found ≡ 0
row_breaks row word found ne = ap (λ b. cond b (cond (eqb word 0) 1 (cond (eqb word row) (row + 1) 0)) 0) (ne_eqb found (2 ^ 64 - 1) ne)

pub if_none : {A : Type 0} (o : Option A) (P Q : Type 0) → (P → Q) → IfNone o P → IfNone o Q
if_none None P Q f h = f h
if_none (Some a) P Q f h = h

words_within : (layout : Layout) (pool : Pool) (word bit : ℕ) → word < pool_words (pool_places layout pool) → bit < 64 → 64 * word + bit < 64 * pool_words (pool_places layout pool)
words_within layout Slots word bit h low = omega (arith, h, low)
words_within layout Nodes word bit h low = omega (arith, h, low)

-- a bit that is clear is that of a place
pub free_within : {S A R : Type 0} (m : Meaning S A R) (digest : Key → ℕ) (layout : Layout) (pool : Pool) (view : CellView S A R) (word found bit : ℕ) →
    StoodSo m digest layout view (pool_at layout pool + word) found →
    word < pool_words (pool_places layout pool) → bit < 64 → bit_at found bit ≡ 0 → 64 * word + bit < pool_places layout pool
free_within m digest layout pool view word found bit stood h low clear = ⊎_elim (λ within. within) past (cases_lt (64 * word + bit) (pool_places layout pool))
  where
    past : pool_places layout pool ≤ 64 * word + bit → 64 * word + bit < pool_places layout pool
    past beyond =
        let one = stood.rule.pools.past pool (64 * word + bit) beyond (words_within layout pool word bit h low) in
        let at : (64 * word + bit) / 64 ≡ word = omega (arith, low) in
        let in' : (64 * word + bit) % 64 ≡ bit = omega (arith, low) in
        let same : bit_at (slice_index stood.state.words (pool_at layout pool + word)) bit ≡ bit_at found bit = ap (λ n. bit_at n bit) stood.there in
        let moved : bit_at (slice_index stood.state.words (pool_at layout pool + (64 * word + bit) / 64))
        ((64 * word + bit) % 64) ≡ bit_at (slice_index stood.state.words (pool_at layout pool + word)) bit
        = (λ i. bit_at (slice_index stood.state.words (pool_at layout pool + at i)) (in' i)) in
        let none : 0 ≡ 1 = sym clear ∙ (sym same ∙ (sym moved ∙ one)) in
        absurd (omega (arith, none))

module _ {S A R F : Type 0} where
  -- searches of the nodes that follow one another are one
  pub searched_more : (old now next : Me F (CellView S A R)) → now ≡ with_pools old (searching old.0.pools now.0.pools) →
      next ≡ with_pools now (searching now.0.pools next.0.pools) → next ≡ with_pools old (searching old.0.pools next.0.pools)
  searched_more old now next is more = more ∙ ap (λ (y : Me F (CellView S A R)). with_pools y (record y.0.pools { found = next.0.pools.found; row = next.0.pools.row })) is

  -- a claim that lost changes only what was found
  pub lost_search : (now next : Me F (CellView S A R)) → next ≡ with_pools now (record now.0.pools { found = next.0.pools.found }) → next ≡ with_pools now (searching now.0.pools next.0.pools)
  lost_search now next is = is ∙ ap (λ r. with_pools now (record now.0.pools { found = next.0.pools.found; row = r })) (sym (ap (λ (y : Me F (CellView S A R)). y.0.pools.row) is))

  -- a pass that needs a node needs it after a search
  pub needs_still : (digest : Key → ℕ) (old now : Me F (CellView S A R)) → now ≡ with_pools old (searching old.0.pools now.0.pools) → NeedsNode digest old.0 → NeedsNode digest now.0
  needs_still digest old now is needs = record {
    meeting = needs.meeting;
    met = ap (λ (y : Me F (CellView S A R)). y.0.trie.meets) is ∙ needs.met;
    parting = needs.parting;
    parts = needs.parts;
    few = subst (λ (y : Me F (CellView S A R)). needs.meeting.level + length y.0.pools.nodes < needs.parting) (sym is) needs.few;
  }

  pub swept_more : (old now next : Me F (CellView S A R)) → now ≡ with_pools old (searching old.0.pools now.0.pools) →
      next ≡ with_pools now (having_swept now.0.pools next.0.pools) → next ≡ with_pools old (having_swept old.0.pools next.0.pools)
  swept_more old now next is more =
      more ∙ ap (λ (y : Me F (CellView S A R)). with_pools y (record y.0.pools { found = next.0.pools.found; row = next.0.pools.row; sweeps = next.0.pools.sweeps })) is

-- what a pass sees begins with what it had seen
goes_on_from : {S A R : Type 0} (old : Pass (Entry S A R)) (new : List (Entry S A R)) → Adds old new [] → IsPrefix old.history new
goes_on_from old new adds = record { rest = adds.rest; goes_on = adds.goes_on }

-- a slot whose bit is set is claimed
set_claimed : {S : Type 0} (stage : Stage S) → claim_bit stage ≡ 1 → IsClaimed stage
set_claimed Vacant e = absurd cc
set_claimed (Building seat) e = tt
set_claimed (Live flow steps) e = tt
set_claimed Dead e = tt

module _ {S A R F : Type 0} (m : Meaning S A R) where
  -- what a pass sees and then sees more
  pub sees_none : (me : Me F (CellView S A R)) → HasSeenMore m me me
  sees_none me = record { adds = record { rest = []; goes_on = sym (append-nil me.0.seats.history); own = refl; listed = λ n c. refl }; legal = λ pass. pass; is = refl }

  pub sees_then : (old now next : Me F (CellView S A R)) → HasSeenMore m old now → HasSeenMore m now next → HasSeenMore m old next
  sees_then old now next so more = record {
    adds = adds_more (cell_pass old.0) (cell_pass now.0) next.0.seats.history [] [] (ap (λ (y : Me F (CellView S A R)). y.0.seats.number) so.is)
        (ap (λ (y : Me F (CellView S A R)). y.0.seats.joined) so.is) so.adds more.adds;
    legal = λ pass. more.legal (so.legal pass);
    is = more.is ∙ ap (λ (y : Me F (CellView S A R)). (seeing_slots y.0 next.0.pools.found next.0.seats.history, y.1)) so.is;
  }

  pub seen_slots : (layout : Layout) (word found : ℕ) (now next : Me F (CellView S A R)) → HasSeenSlots m layout word found now next → HasSeenMore m now next
  seen_slots layout word found now next seen = record {
    adds = seen.adds;
    legal = seen.legal;
    is = seen.is ∙ ap (λ n. (seeing_slots now.0 n next.0.seats.history, now.1)) (sym (ap (λ (y : Me F (CellView S A R)). y.0.pools.found) seen.is));
  }

  -- the pass found the words of the slots below this one full, so each of their slots was claimed at some point
  pub record ClaimedBelow (layout : Layout) (old : Me F (CellView S A R)) (word : ℕ) (now : Me F (CellView S A R)) : Type 0 where
    pub more : HasSeenMore m old now
    pub claimed : (slot : ℕ) → slot < layout.slots → slot < 64 * word → IsClaimedBetween m old.0.seats.history now.0.seats.history slot

  pub none_claimed : (layout : Layout) (me : Me F (CellView S A R)) → ClaimedBelow layout me 0 me
  none_claimed layout me = record { more = sees_none me; claimed = λ slot h low. absurd (omega (arith, low)) }

  pub more_claimed : (layout : Layout) (old now next : Me F (CellView S A R)) (word found : ℕ) → ClaimedBelow layout old word now → found ≡ 2 ^ 64 - 1 → HasSeenSlots m layout word found now next →
      ClaimedBelow layout old (word + 1) next
  more_claimed layout old now next word found so full seen = record {
    more = all;
    claimed = λ slot h low. ⊎_elim
        (λ (below : slot < 64 * word).
        let was = so.claimed slot h below in
        record {
          point = was.point;
          begins = was.begins;
          goes_on = IsPrefix-trans was.point now.0.seats.history next.0.seats.history was.goes_on (goes_on_from (cell_pass now.0) next.0.seats.history seen.adds);
          claimed = was.claimed;
        })
        (λ (past : 64 * word ≤ slot).
        let here : slot / 64 ≡ word = omega (arith, past, low) in
        let bit : bit_at found (slot % 64) ≡ 1 = ap (λ n. bit_at n (slot % 64)) full ∙ bit_at_mask_inside 0 64 (slot % 64) (omega arith) (omega arith) in
        record {
          point = next.0.seats.history;
          begins = goes_on_from (cell_pass old.0) next.0.seats.history all.adds;
          goes_on = IsPrefix-self next.0.seats.history;
          claimed = set_claimed ((state_of m next.0.seats.history).slot slot).stage (sym (seen.claims slot h here) ∙ bit);
        })
        (cases_lt slot (64 * word));
  }
    where
      all : HasSeenMore m old next
      all = sees_then old now next so.more (seen_slots layout word found now next seen)

  -- what was claimed since a later point was claimed since an earlier one
  pub claimed_since : (old now next : Me F (CellView S A R)) → HasSeenMore m old now → IsFullBetween m (cell_pass now.0) next.0.seats.history → IsFullBetween m (cell_pass old.0) next.0.seats.history
  claimed_since old now next so full slot h =
      let same : now.0.seats.about ≡ old.0.seats.about = ap (λ (y : Me F (CellView S A R)). y.0.seats.about) so.is in
      let was = full slot (omega (arith, h, same)) in
      record {
        point = was.point;
        begins = IsPrefix-trans old.0.seats.history now.0.seats.history was.point (goes_on_from (cell_pass old.0) now.0.seats.history so.adds) was.begins;
        goes_on = was.goes_on;
        claimed = was.claimed;
      }

  -- a claim behind loads and claims that lost
  pub claims_then : (n slot : ℕ) (old now next : Me F (CellView S A R)) → HasSeenMore m old now → HasClaimed m n slot now next → HasClaimed m n slot old next
  claims_then n slot old now next so has =
      let number : now.0.seats.number ≡ old.0.seats.number = ap (λ (y : Me F (CellView S A R)). y.0.seats.number) so.is in
      let joined : now.0.seats.joined ≡ old.0.seats.joined = ap (λ (y : Me F (CellView S A R)). y.0.seats.joined) so.is in
      let entries : claim_entries (cell_pass now.0) n (Some has.id) ≡ claim_entries (cell_pass old.0) n (Some has.id) =
      ap (λ (p : ℕ). record { seat = p; act = Claim n has.id.slot; reply = ToClaim has.id } ∷ []) number in
      record {
        id = has.id;
        slot_is = has.slot_is;
        adds = record {
          adds = adds_more (cell_pass old.0) (cell_pass now.0) next.0.seats.history [] (claim_entries (cell_pass old.0) n (Some has.id)) number joined so.adds
              (subst (Adds (cell_pass now.0) next.0.seats.history) entries has.adds.adds);
          ends = subst (EndsWith next.0.seats.history) entries has.adds.ends;
        };
        legal = has.legal;
        is = has.is ∙ ap (λ (y : Me F (CellView S A R)). (claiming_slot y.0 next.0.pools.found next.0.seats.history has.id, y.1)) so.is;
      }

module _ {S A R F : Type 0} (m : Meaning S A R) (digest : Key → ℕ) (layout : Layout) where
  -- the pass found the words of the nodes below this one full
  pub record FullBelow (old : Me F (CellView S A R)) (word : ℕ) (now : Me F (CellView S A R)) : Type 0 where
    pub is : now ≡ with_pools old (having_swept old.0.pools now.0.pools)
    pub row : 1 ≤ word → now.0.pools.row ≡ word
    pub before : word < pool_words layout.nodes → now ≡ with_pools old (searching old.0.pools now.0.pools)
    pub whole : word ≡ pool_words layout.nodes → now.0.pools.sweeps ≡ old.0.pools.sweeps + min word 1
    pub full : (k : ℕ) → k < word → StoodFull m digest layout old.0 k

  pub none_full : (me : Me F (CellView S A R)) → FullBelow me 0 me
  none_full me = record { is = refl; row = λ h. absurd (omega (arith, h)); before = λ _. refl; whole = λ _. omega arith; full = λ k h. absurd (omega (arith, h)) }

  -- one word more was full
  full_more : (old now : Me F (CellView S A R)) (word found : ℕ) → FullBelow old word now → word < pool_words layout.nodes → found ≡ 2 ^ 64 - 1 →
      StoodSo m digest layout now.0 (pool_at layout Nodes + word) found → (k : ℕ) → k < word + 1 → StoodFull m digest layout old.0 k
  full_more old now word found so h e stood k h' = ⊎_elim
      (λ (e' : k ≡ word). subst (λ i. StoodFull m digest layout old.0 i) (sym e') (record {
        side = now.0.pools;
        row = so.row;
        stood = subst (λ v. StoodSo m digest layout v (pool_at layout Nodes + word) (2 ^ 64 - 1)) (ap (λ (y : Me F (CellView S A R)). y.0) (so.before h))
            (subst (λ n. StoodSo m digest layout now.0 (pool_at layout Nodes + word) n) e stood);
      }))
      (λ ne. so.full k (omega (arith, h', ne)))
      (cases_eq k word)

  -- a load of the nodes' next word, and the row and the count of sweeps after it
  module _ (old now next : Me F (CellView S A R)) (word found row : ℕ) (so : FullBelow old word now) (h : word < pool_words layout.nodes)
      (is : next ≡ with_pools now (sweeping (pool_words layout.nodes) word now.0.pools found)) (e : row_after now.0.pools.row word found ≡ row) where
    loaded : next ≡ with_pools old (having_swept old.0.pools next.0.pools)
    loaded = swept_more old now next (so.before h) (subst (λ y. y ≡ with_pools now (having_swept now.0.pools y.0.pools)) (sym is) refl)

    counted : next.0.pools.sweeps ≡ cond (eqb row (pool_words layout.nodes)) (old.0.pools.sweeps + 1) old.0.pools.sweeps
    counted =
        let swept : now.0.pools.sweeps ≡ old.0.pools.sweeps = ap (λ (y : Me F (CellView S A R)). y.0.pools.sweeps) (so.before h) in
        ap (λ (y : Me F (CellView S A R)). y.0.pools.sweeps) is ∙ (λ i. cond (eqb (e i) (pool_words layout.nodes)) (swept i + 1) (swept i))

    uncounted : row ≢ pool_words layout.nodes → next ≡ with_pools old (searching old.0.pools next.0.pools)
    uncounted ne =
        let none = counted ∙ ap (λ b. cond b (old.0.pools.sweeps + 1) old.0.pools.sweeps) (ne_eqb row (pool_words layout.nodes) ne) in
        loaded ∙ ap (λ n. with_pools old (record old.0.pools { found = next.0.pools.found; row = next.0.pools.row; sweeps = n })) none

  pub one_more : (old now next : Me F (CellView S A R)) (word found : ℕ) → FullBelow old word now → word < pool_words layout.nodes → found ≡ 2 ^ 64 - 1 →
      next ≡ with_pools now (sweeping (pool_words layout.nodes) word now.0.pools found) → StoodSo m digest layout now.0 (pool_at layout Nodes + word) found → FullBelow old (word + 1) next
  one_more old now next word found so h e is stood =
      let grows = ap (λ n. row_after now.0.pools.row word n) e ∙ row_grows now.0.pools.row word so.row in
      let one = counted old now next word found (word + 1) so h is grows in
      record {
        is = loaded old now next word found (word + 1) so h is grows;
        row = λ _. ap (λ (y : Me F (CellView S A R)). y.0.pools.row) is ∙ grows;
        before = λ h'. uncounted old now next word found (word + 1) so h is grows (λ e'. omega (arith, e', h'));
        whole = λ e'. one ∙ ap (λ b. cond b (old.0.pools.sweeps + 1) old.0.pools.sweeps) (eq-eqb (word + 1) (pool_words layout.nodes) e') ∙ omega arith;
        full = full_more old now word found so h e stood;
      }

  -- a word that isn't full completes no row
  pub found_clear : (old now next : Me F (CellView S A R)) (word found : ℕ) → FullBelow old word now → word < pool_words layout.nodes → found ≢ 2 ^ 64 - 1 →
      next ≡ with_pools now (sweeping (pool_words layout.nodes) word now.0.pools found) → next ≡ with_pools old (searching old.0.pools next.0.pools)
  found_clear old now next word found so h ne is =
      uncounted old now next word found 0 so h is (row_breaks now.0.pools.row word found ne) (λ e. omega (arith, e, h))

  -- what was found after a search stands for what was known before it
  pub before_search : (old me : Me F (CellView S A R)) (word : ℕ) → me ≡ with_pools old (searching old.0.pools me.0.pools) → StoodFull m digest layout me.0 word → StoodFull m digest layout old.0 word
  before_search old me word is full = let known = subst (λ (y : Me F (CellView S A R)). StoodFull m digest layout y.0 word) is full in
      record { side = known.side; row = known.row; stood = known.stood }
