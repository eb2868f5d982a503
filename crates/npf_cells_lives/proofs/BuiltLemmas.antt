-- What a pass is building holds no key but those that the pass has seen it take.
use Rattle.std.proofs.{Common.{◌≡◌, ℕ, ◌==◌, List, [], ◌∷◌, sym, ap, ◌∙◌, subst}, lemmas.Bool.Decides.{Decides-eqb, not_from_Decides}}
use Rattle.npf_types.specs.declared.key.Way.{Way}
use Rattle.npf_shelf.proofs.ListLemmas.{filter-cons_nil}
use Rattle.npf_core.specs.declared.{conn_id.ConnId.ConnId, entry.Entry.Entry, stage.Stage.TheVariants.Building}
use Rattle.npf_core.specs.{History.{LegalFrom, Legal, IsPrefix, after, by, state_from, state_of}, Machine.{IsAlive, Machine, stage_of, HoldsNone}}
use Rattle.npf_core.{specs.Meaning.Meaning, proofs.{KeyLemmas.stays_holder, BuildingLemmas.holds_none_after, HistoryLemmas.{state_from-append, LegalFrom-rest}}}
use Rattle.npf_core.proofs.LifeLemmas.{Life, stage_in, stage_of-is, Moves, keeps, claims, starts, steps, abandons, expires, frees as is_freed, entry_moves}
use Rattle.npf_seats.proofs.PrefixLemmas.{rest_none}
use Rattle.npf_cells_lives.specs.Conns.{entry_seat}

module _ {S A R : Type 0} (m : Meaning S A R) (slots : ℕ) where
  module _ (entry : Entry S A R) (seat : ℕ) (id : ConnId) (other : ¬ (entry.seat ≡ seat)) where
    was_building : (x y : Life S) → Moves m entry.seat entry.act entry.reply id x y → stage_in y ≡ Building seat → stage_in x ≡ Building seat
    was_building _ _ (keeps silent) e = e
    was_building _ _ (claims packet act reply) e = absurd (other cc)
    was_building _ _ (starts packet init act answer) e = absurd cc
    was_building _ _ (steps packet way arg flow n act reply) e = absurd cc
    was_building _ _ (abandons act answer) e = absurd cc
    was_building _ _ (expires now flow n act answer due) e = absurd cc
    was_building _ _ (is_freed act answer) e = absurd cc

  -- what is Building under a seat was so before the entries of others
  pub built_before : (k : Machine S) (entries : List (Entry S A R)) (seat : ℕ) (id : ConnId) → LegalFrom m slots k entries → by seat entries ≡ [] →
      stage_of (state_from m k entries) id ≡ Building seat → stage_of k id ≡ Building seat
  built_before k [] seat id legal none e = e
  built_before k (entry ∷ entries) seat id legal none e =
      let first = filter-cons_nil (λ (x : Entry S A R). x.seat == seat) entry entries none in
      let next = built_before (after m k entry) entries seat id legal.1 first.1 e in
      rw stage_of-is (was_building entry seat id (not_from_Decides _ (Decides-eqb entry.seat seat) first.0) _ _
      (entry_moves m slots k entry id legal.0) (sym (stage_of-is (after m k entry) id) ∙ next))

  -- a pass that has seen all of its own entries has seen what its connections hold
  pub bare_in_log : (history log : List (Entry S A R)) (seat : ℕ) (id : ConnId) (way : Way) → Legal m slots log → IsPrefix history log → by seat log ≡ by seat history →
      stage_of (state_of m log) id ≡ Building seat → HoldsNone (state_of m history) id way → HoldsNone (state_of m log) id way
  bare_in_log history log seat id way legal seen own built bare =
      let whole : state_of m log ≡ state_from m (state_of m history) seen.rest = ap (state_of m) seen.goes_on ∙ state_from-append m _ history seen.rest in
      let after' = LegalFrom-rest m slots _ history seen.rest (subst (Legal m slots) seen.goes_on legal) in
      let others = rest_none entry_seat seat history log seen own in
      let before = built_before (state_of m history) seen.rest seat id after' others (subst (λ k. stage_of k id ≡ Building seat) whole built) in
      subst (λ k. HoldsNone k id way) (sym whole) (holds_none_after m slots (state_of m history) seen.rest seat id way after' others before bare)

  -- and what it builds held nothing that it doesn't hold now
  pub bare_before : (history log : List (Entry S A R)) (seat : ℕ) (id : ConnId) (way : Way) → Legal m slots log → IsPrefix history log → by seat log ≡ by seat history →
      stage_of (state_of m log) id ≡ Building seat → HoldsNone (state_of m log) id way → HoldsNone (state_of m history) id way
  bare_before history log seat id way legal seen own built bare key holds =
      let whole : state_of m log ≡ state_from m (state_of m history) seen.rest = ap (state_of m) seen.goes_on ∙ state_from-append m _ history seen.rest in
      let after' = LegalFrom-rest m slots _ history seen.rest (subst (Legal m slots) seen.goes_on legal) in
      let others = rest_none entry_seat seat history log seen own in
      let later : stage_of (state_from m (state_of m history) seen.rest) id ≡ Building seat = subst (λ k. stage_of k id ≡ Building seat) whole built in
      let before = built_before (state_of m history) seen.rest seat id after' others later in
      bare key (ap (λ k. k.holder key) whole ∙ stays_holder m slots (state_of m history) seen.rest key
      (record { id = id; way = way }) after' holds (subst IsAlive (sym before) tt) (subst IsAlive (sym later) tt))
