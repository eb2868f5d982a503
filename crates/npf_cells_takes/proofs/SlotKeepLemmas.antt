-- Kind 8 for slots keeps the rule, and makes the claim.
use Rattle.std.specs.{Int.{bit_at, w64}, List.Contains}
use Rattle.std.proofs.Common.{◌/◌, ◌≡◌, ◌≢◌, ◌+◌, ℕ, ◌*◌, ◌%◌, ◌^◌, ◌<◌, ◌≤◌, Bool, true, false, true≢false, cond, eqb, eq-eqb, [], ◌∷◌, ◌++◌, map, set}
use Rattle.std.proofs.{Common.{length, slice_index, refl, sym, ap, ◌∙◌, subst, ⊎_elim, inl, inr, arith, bit_or}, lemmas.Bool.cases_eq}
use Rattle.std.proofs.lemmas.{Bool.Decides.{Decides-eqb, not_from_Decides}, List.Elements.{Contains-append_left, Contains-append_right, Contains-push}}
use Rattle.std.proofs.lemmas.Nat.Bits.{bit_at-lt, bit_at_set_same, bit_at_set_other}
use mathlib.Core.Option.{some}
use lib.ListN.{get_elem?}
use Rattle.atomic_table.{specs.Table.{State, Me, Step, Allows, Act, Valid, carried_after, stepped, keeps}, proofs.Lists.at_map}
use Rattle.npf_types.specs.declared.key.Key.{Key}
use Rattle.npf_core.specs.declared.{act.Act.TheVariants.Claim, conn_id.ConnId.ConnId, entry.Entry.Entry, slot.Slot.Slot, reply.Reply.TheVariants.ToClaim}
use Rattle.npf_core.specs.{declared.stage.Stage.TheVariants.{Vacant, Building, Dead}, History.{MayFollow, Legal, state_of}}
use Rattle.npf_core.specs.{Machine.{Machine, stage_of, IsClaimed}, Meaning.Meaning, NextState.changed, Replies.claimed_id}
use Rattle.npf_core.proofs.{HistoryLemmas.{state_of-append, Legal-append}, HolderLemmas.claimed_by}
use Rattle.npf_connections.specs.Adding.{AddsOwn}
use Rattle.npf_cells_words.specs.{declared.layout.{Layout.Layout, Pool.{Pool, TheVariants.{Slots, Nodes}}}, Layout.place_word}
use Rattle.npf_seats.{specs.Seats.FitsSeats, proofs.{PrefixLemmas.cons_cases, SumLemmas.set_there}}
use Rattle.npf_cells_pins.proofs.EpochLemmas.{within_last}
use Rattle.npf_cells_leaves.specs.Trie.{FitsTrie, trie_words}
use Rattle.npf_cells_leaves.proofs.TrieLemmas.{KeepsTrie, knows_same, fits_kept, trie_kept, grown-set, fits-set, fits_all, keeps_words}
use Rattle.npf_cells_lives.{specs.{Conns.{inc_word, entry_seat}, Deaths.is_dead, Pools.taken, Stored.{IsOwnField, FitsStored}}, proofs.ConnLemmas.BuildsIn}
use Rattle.npf_cells_lives.proofs.{DeathLemmas.{Spares, spares_held, stays_dead, RestsNoMore, dead_at}, PoolLemmas.{pools-set, taken-set}}
use Rattle.npf_cells_lives.proofs.SlotLemmas.{clear_vacant, claimed, now_taken, now_building, slot_else, taken_else, builds_more, incs_more}
use Rattle.npf_cells_lives.{proofs.StoredLemmas.stored_kept, specs.Turns.{Running, StaysAt, stage_phase}}
use Rattle.npf_cells_rule.specs.{declared.view.CellView.CellView, Cells.IsCells, Passes.{IsProtected, cell_pass}}
use Rattle.npf_cells_rule.{specs.Views.{seat_side, reader_view, pool_side, trie_side, death_side}, proofs.EntryLemmas.{adds_entry, sole_entries}}
use Rattle.npf_cells_rule.proofs.{Frames.{alone_within, sight_step, entry_step}, MarkFrames.{marks_on, words_behind}, PassLemmas.pinned_in}
use Rattle.npf_cells_takes.{proofs.SightLemmas.{seer, seer_stored, has_seen}, specs.SlotKinds.{claiming_slot, HasClaimed, ClaimsSlot}}
use Rattle.npf_cells_rule.proofs.StoodLemmas.{stood_so}
use Rattle.npf_cells_takes.proofs.PoolKeepLemmas.{pool_step}

module _ {S A R : Type 0} (m : Meaning S A R) (digest : Key → ℕ) (layout : Layout) where
  module _ (s : State (Running S) (CellView S A R)) (id : ℕ) (me : Me (Running S) (CellView S A R)) (kept : IsCells m digest layout s) (at : get_elem? s.views id ≡ some me.0)
      (lives : me.0.seats.lives ≡ true) (settled : me.0.seats.theirs ≡ []) (place : 1 ≤ length me.0.seats.readers)
      (stays : IsProtected me.0.epochs.pin) (packet slot : ℕ) (within : slot < layout.slots) where
    abbrev word : ℕ
    word = place_word layout Slots slot

    abbrev found : ℕ
    found = slice_index s.words word

    abbrev k : Machine S
    k = state_of m kept.log

    abbrev entry : Entry S A R
    entry = record { seat = id; act = Claim packet slot; reply = ToClaim (claimed_id k slot) }

    abbrev winner : CellView S A R
    winner = claiming_slot me.0 found (kept.log ++ entry ∷ []) (claimed_id k slot)

    there : get_elem? (map seat_side s.views) id ≡ some me.0.seats
    there = at_map seat_side s.views id me.0 at

    fits : FitsSeats entry_seat layout.slots (map seat_side s.views) kept.log id me.0.seats
    fits = kept.seats.each id me.0.seats there

    -- where the bit is clear the slot is vacant, so the claim may follow
    follows : bit_at found (slot % 64) ≡ 0 → MayFollow m layout.slots k entry
    follows clear = record {
      allowed = record { exists = within; unclaimed = clear_vacant (k.slot slot).stage (sym (kept.pools.bits Slots slot within) ∙ clear) };
      replied = refl;
    }

    builds : bit_at found (slot % 64) ≡ 0 → BuildsIn pool_side (claimed m k id packet slot) (set s.views id winner)
    builds clear = builds_more m k id packet slot pool_side s.views id me.0 winner at refl (follows clear).allowed.unclaimed kept.connections.each refl refl

    -- what it stored stays
    winner_stored : bit_at found (slot % 64) ≡ 0 → FitsStored layout s.words winner.pools
    winner_stored clear = stored_kept layout s.words s.words me.0.pools winner.pools (kept.stored id me.0 at) refl builds_too (λ pool p field own. refl)
      where
        builds_too : (pool : Pool) (p field : ℕ) → IsOwnField layout me.0.pools pool p field → IsOwnField layout winner.pools pool p field
        builds_too Slots p field own = let built = own.0 in
            (record { id = built.id; built = Contains-append_right (claimed_id k slot ∷ []) me.0.pools.builds built.id built.built; there = built.there }, own.1, own.2, own.3, own.4)
        builds_too Nodes p field own = own

    -- a slot that is claimed was neither Live nor Dead, and isn't
    slots_stay : MayFollow m layout.slots k entry → (p : ℕ) → StaysAt (k.slot p) ((claimed m k id packet slot).slot p)
    slots_stay may p = ⊎_elim
        (λ (e : p ≡ slot). subst (λ q. StaysAt (k.slot q) ((claimed m k id packet slot).slot q)) (sym e) (inr (ap stage_phase may.allowed.unclaimed, now_building m k id packet slot)))
        (λ ne. inl (slot_else m k id packet slot p ne))
        (cases_eq p slot)

    -- it spares the dead, and the new connection is none of them
    claim_spares : MayFollow m layout.slots k entry → Spares k (claimed m k id packet slot)
    claim_spares may = spares_held k (claimed m k id packet slot) (λ key. refl) (λ p dead. ⊎_elim
        (λ (e : p ≡ slot). absurd (let no : Vacant ≡ Dead = sym may.allowed.unclaimed ∙ (ap (λ q. (k.slot q).stage) (sym e) ∙ dead) in cc))
        (λ ne. slot_else m k id packet slot p ne)
        (cases_eq p slot))

    claim_dead : MayFollow m layout.slots k entry → (p : ℕ) → is_dead ((claimed m k id packet slot).slot p).stage ≡ is_dead (k.slot p).stage
    claim_dead may p = ⊎_elim
        (λ (e : p ≡ slot).
        let now : is_dead ((claimed m k id packet slot).slot slot).stage ≡ 0 =
        ap (λ b. is_dead (cond b (changed m id (Claim packet slot) (k.slot slot)) (k.slot slot)).stage) (eq-eqb slot slot refl) in
        ap (λ q. is_dead ((claimed m k id packet slot).slot q).stage) e ∙ (now ∙ (sym (ap is_dead may.allowed.unclaimed) ∙ ap (λ q. is_dead (k.slot q).stage) (sym e))))
        (λ ne. ap (λ (x : Slot S). is_dead x.stage) (slot_else m k id packet slot p ne))
        (cases_eq p slot)

    winner_rests : RestsNoMore k (death_side me.0) (death_side winner)
    winner_rests = record {
      rests = λ i dead bare rests. (
        ⊎_elim
            (λ (c : Contains (claimed_id k slot ∷ me.0.trie.answered) i). ⊎_elim
            (λ (e : claimed_id k slot ≡ i). absurd (let last : (k.slot slot).inc ≡ (k.slot slot).inc + 1 =
            (dead_at (k.slot slot) ((k.slot slot).inc + 1) (subst (λ (x : ConnId). stage_of k x ≡ Dead) (sym e) dead)).0 in omega (arith, last)))
            (λ d. inl d)
            (cons_cases (claimed_id k slot) i me.0.trie.answered c))
            (λ e. inr e)
            rests,
        refl,
      );
    }

    -- the claim leaves the holders, and what was claimed
    keeps_claim : (n : ℕ) → bit_at found (slot % 64) ≡ 0 → KeepsTrie layout.slots k (claimed m k id packet slot) (trie_words layout s.words) (trie_words layout (set s.words word n))
    keeps_claim n clear = keeps_words layout k (claimed m k id packet slot) s.words (set s.words word n) (λ key. refl)
        (λ identity c. claimed_by m layout.slots k entry identity (follows clear) (λ e. absurd cc) c)
        (λ identity e. stays_dead k (claimed m k id packet slot) (claim_spares (follows clear)) identity e)
        (pool_step layout s.words Slots slot n within).behind

    -- and the pass was answered the new connection
    new_claimed : bit_at found (slot % 64) ≡ 0 → (i : ConnId) → Contains (claimed_id k slot ∷ me.0.trie.answered) i → IsClaimed (stage_of (claimed m k id packet slot) i)
    new_claimed clear i c = ⊎_elim
        (λ (e : claimed_id k slot ≡ i).
        let first = Contains-append_left (claimed_id k slot ∷ []) me.0.pools.builds (claimed_id k slot) (Contains-push [] (claimed_id k slot)) in
        let built = (builds clear id winner (set_there s.views id me.0 winner at)).building (claimed_id k slot) first in
        subst (λ x. IsClaimed (stage_of (claimed m k id packet slot) x)) e (subst IsClaimed (sym built) tt))
        (λ d. claimed_by m layout.slots k entry i (follows clear) (λ e. absurd cc) ((kept.trie.each id me.0 at).claimed i d))
        (cons_cases (claimed_id k slot) i me.0.trie.answered c)

    winner_fits : (n : ℕ) → bit_at found (slot % 64) ≡ 0 → FitsTrie digest layout.slots (claimed m k id packet slot) (trie_words layout (set s.words word n)) winner.trie
    winner_fits n clear =
        let was = fits_kept digest layout.slots k (claimed m k id packet slot) (trie_words layout s.words) (trie_words layout (set s.words word n))
        (keeps_claim n clear) me.0.trie me.0.trie (knows_same me.0.trie) (kept.trie.each id me.0 at) in
        record { stands = was.stands; leaf = was.leaf; seen = was.seen; claimed = new_claimed clear }

    pub wins : (n : ℕ) → bit_at found (slot % 64) ≡ 0 → bit_at n (slot % 64) ≡ 1 → ((i : ℕ) → i < 64 → i ≢ slot % 64 → bit_at n i ≡ bit_at found i) →
        IsCells m digest layout (stepped s word n id me.1 winner keeps)
    wins n clear here bits =
        let may = follows clear in
        entry_step m digest layout s word n id me.1 me.0 winner kept at lives place entry refl may refl refl (winner_stored clear) refl refl (slots_stay may)
        (λ key. refl) refl (claim_spares may) (claim_dead may) winner_rests refl (λ conn c. Contains-append_right (claimed_id k slot ∷ []) me.0.pools.builds conn c)
        (alone_within winner place stays) (pool_step layout s.words Slots slot n within)
        (pools-set layout (taken pool_side kept.published k s.views) (taken pool_side kept.published (claimed m k id packet slot)
        (set s.views id winner)) s.words Slots slot n kept.pools within (here ∙ sym (now_taken m k id packet slot)) bits
        (taken_else m k id packet slot pool_side s.views id me.0 winner at kept.published refl refl))
        (trie_kept trie_side digest layout kept.published k (claimed m k id packet slot) s.words (set s.words word n) s.views
        (set s.views id winner) kept.trie (keeps_claim n clear) (grown-set trie_side s.views id me.0 winner at refl refl)
        (fits-set trie_side digest layout.slots (claimed m k id packet slot) (trie_words layout (set s.words word n)) s.views id winner (winner_fits n clear)
        (fits_all trie_side digest layout.slots k (claimed m k id packet slot) (trie_words layout s.words) (trie_words layout (set s.words word n)) s.views (keeps_claim n clear) kept.trie.each)))
        (builds clear)
        (λ p h. incs_more m k id packet slot pool_side s.views id me.0 winner at refl may.allowed.unclaimed kept.connections.each refl refl (inc_word layout s.words) p (kept.connections.incs p h))
        (marks_on m digest layout s kept (set s.words word n) id me.0 winner at
        (words_behind layout kept.published s.words (set s.words word n) (let same = (pool_step layout s.words Slots slot n within).before 0 (omega arith) in
        omega (arith, same)) (pool_step layout s.words Slots slot n within).behind)
        (record { stands = λ point e. e; seen = λ x e. e; locks = refl; marks = refl; emptied = λ e is. is; met_mark = λ x is. is }) refl (λ _. refl) refl)

    -- the claim ends what the pass has then seen
    pub has_claimed : bit_at found (slot % 64) ≡ 0 → HasClaimed m packet slot me (winner, me.1)
    has_claimed clear = record {
      id = claimed_id k slot;
      slot_is = refl;
      adds = subst (AddsOwn (cell_pass me.0) (kept.log ++ entry ∷ [])) (ap (λ n. record entry { seat = n } ∷ []) (sym number))
          (adds_entry layout.slots kept.log (map seat_side s.views) id me.0 kept.seats there lives place entry refl);
      legal = record {
        legal = subst (λ slots. Legal m slots (kept.log ++ entry ∷ [])) (sym (fits.sized place)) (Legal-append m layout.slots kept.log entry kept.connections.legal (follows clear));
        stays = λ i c. subst (λ n. IsClaimed (stage_of n i)) (sym (state_of-append m kept.log entry)) (new_claimed clear i c);
        building = λ i c. ap (λ n. stage_of n i) (state_of-append m kept.log entry) ∙ ((builds clear id winner (set_there s.views id me.0 winner at)).building i c ∙ ap (λ n. Building n) (sym number));
        unanswered = λ out. absurd (true≢false (sym (pinned_in me.0.epochs.pin stays) ∙ out));
        idle = λ out. absurd (true≢false (sym (pinned_in me.0.epochs.pin stays) ∙ out));
        alone = sole_entries layout.slots kept.log (map seat_side s.views) id me.0 kept.seats there lives place entry refl settled;
        most = within_last _ _ _ kept.epochs id (reader_view me.0) (at_map reader_view s.views id me.0 at);
      };
      is = refl;
    }
      where
        number : me.0.seats.number ≡ id
        number = (fits.lives lives).number

    -- where it is set the pass has seen all of the history
    pub loses : (n : ℕ) → bit_at found (slot % 64) ≢ 0 → bit_at n (slot % 64) ≡ 1 → ((i : ℕ) → i < 64 → i ≢ slot % 64 → bit_at n i ≡ bit_at found i) →
        IsCells m digest layout (stepped s word n id me.1 (seer m digest layout s id me kept at lives place found) keeps)
    loses n some' here bits =
        let w = seer m digest layout s id me kept at lives place found in
        let taken' = taken-set pool_side kept.published k s.views id me.0 w at refl refl in
        let bit = kept.pools.bits Slots slot within in
        let below = bit_at-lt found (slot % 64) in
        let one : bit_at found (slot % 64) ≡ 1 = omega (arith, some', below) in
        sight_step m digest layout s word n id me.1 me.0 w kept at lives refl refl (knows_same me.0.trie)
        (seer_stored m digest layout s id me kept at lives place found) refl refl refl refl refl (alone_within w place stays) (pool_step layout s.words Slots slot n within)
        (pools-set layout (taken pool_side kept.published k s.views) (taken pool_side kept.published k (set s.views id w)) s.words Slots slot n kept.pools within
        (here ∙ (sym one ∙ (bit ∙ sym (taken' Slots slot)))) bits (λ other p two. taken' other p))

  pub may_claim_slot : (st : Step (Running S)) (id n packet slot mask : ℕ) (me : Me (Running S) (CellView S A R)) → me.0.seats.lives ≡ true →
      me.0.seats.theirs ≡ [] → 1 ≤ length me.0.seats.readers → IsProtected me.0.epochs.pin → slot < layout.slots → mask ≡ 1 * 2 ^ (slot % 64) % 2 ^ 64 →
      Allows (IsCells m digest layout) n id me (place_word layout Slots slot) (λ k. bit_or k mask) (ClaimsSlot m digest layout packet slot st me)
  may_claim_slot st id n packet slot mask me lives settled place stays within is s kept homes at bound = rw is (by_bit (eqb bit 0) refl)
    where
      number : ℕ
      number = slice_index s.words (place_word layout Slots slot)

      bit : ℕ
      bit = bit_at number (slot % 64)

      after' : ℕ
      after' = bit_or number (1 * 2 ^ (slot % 64) % 2 ^ 64)

      here : bit_at after' (slot % 64) ≡ 1
      here = bit_at_set_same w64 number (slot % 64) (omega arith)

      else' : (i : ℕ) → i < 64 → i ≢ slot % 64 → bit_at after' i ≡ bit_at number i
      else' i h ne = bit_at_set_other w64 number (slot % 64) (omega arith) i ne

      by_bit : (b : Bool) → eqb bit 0 ≡ b →
          (w : CellView S A R) × (a : Act (Running S)) × Valid s.homes me.1 a × IsCells m digest layout (stepped s (place_word layout Slots slot) after' id me.1 w a) ×
          ClaimsSlot m digest layout packet slot st me number (w, carried_after me.1 a)
      by_bit true e =
          let clear : bit ≡ 0 = (Decides-eqb bit 0).0 e in (
            winner s id me kept at lives settled place stays packet slot within,
            keeps,
            tt,
            wins s id me kept at lives settled place stays packet slot within after' clear here else',
            record {
              finds = refl;
              stood = stood_so m digest layout s id me.0 (place_word layout Slots slot) (place_word layout Slots slot) kept at lives refl;
              won = λ _. has_claimed s id me kept at lives settled place stays packet slot within clear;
              lost = λ no. absurd (no clear);
            },
          )
      by_bit false e =
          let some' : bit ≢ 0 = not_from_Decides _ (Decides-eqb bit 0) e in (
            seer m digest layout s id me kept at lives place number,
            keeps,
            tt,
            loses s id me kept at lives settled place stays packet slot within after' some' here else',
            record {
              finds = refl;
              stood = stood_so m digest layout s id me.0 (place_word layout Slots slot) (place_word layout Slots slot) kept at lives refl;
              won = λ clear. absurd (some' clear);
              lost = λ _. has_seen m digest layout s id me kept at lives place number settled (slot / 64) (place_word layout Slots slot) refl refl;
            },
          )
