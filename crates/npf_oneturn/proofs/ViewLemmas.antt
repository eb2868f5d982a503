-- The rule where only views change.
use Rattle.std.proofs.Common.{◌≡◌, ◌≢◌, ℕ, true, false, true≢false, List, [], ◌∷◌, ◌++◌, map, length, set, sym, ap, ◌∙◌, subst, ⊎_elim, arith}
use Rattle.std.{specs.Prelude.slice_index, proofs.lemmas.List.{map-set, set-get_or}}
use mathlib.Core.Option.{some}
use lib.ListN.{get_elem?}
use Rattle.atomic_table.{specs.Table.{State, stepped, keeps}, proofs.Lists.{at_set, set_again}}
use Rattle.npf_core.specs.{History.state_of, Machine.Machine, Meaning.Meaning}
use Rattle.npf_connections.specs.Pass.{all_places}
use Rattle.npf_seats.{specs.Seats.Seats, proofs.SumLemmas.there_pushed}
use Rattle.npf_oneturn.specs.{declared.{contents.Contents.Contents, view.View.View}, Rule.{FitsRule, IsRuled}}
use Rattle.npf_oneturn.{specs.Views.{entry_seat, seat_of_view, crowd_of, one_if, HasHolder}, proofs.Counts.{crowd-set, holder-set}}

module _ {S A R : Type 0} where
  -- each view fits where one changes or a new one comes
  abbrev AllFit : Machine S → List (View S A R) → Type 0
  AllFit k views = (j : ℕ) (v : View S A R) → get_elem? views j ≡ some v → FitsRule k v

  pub each-set : (k : Machine S) (views : List (View S A R)) (id : ℕ) (w : View S A R) → FitsRule k w → AllFit k views → AllFit k (set views id w)
  each-set k views id w mine kept j u e = ⊎_elim
      (λ (x : (j ≡ id) × (w ≡ u)). subst (λ (y : View S A R). FitsRule k y) x.1 mine)
      (λ (x : (j ≢ id) × (get_elem? views j ≡ some u)). kept j u x.1)
      (at_set views id j w u e)

  pub each-push : (k : Machine S) (views : List (View S A R)) (w : View S A R) → FitsRule k w → AllFit k views → AllFit k (views ++ w ∷ [])
  each-push k views w mine kept j u e = ⊎_elim
      (λ (there : get_elem? views j ≡ some u). kept j u there)
      (λ (x : (j ≡ length views) × (w ≡ u)). subst (λ (y : View S A R). FitsRule k y) x.1 mine)
      (there_pushed views w u j e)

  -- who has the turn had it before
  abbrev HadTurns : List (View S A R) → List (View S A R) → Type 0
  HadTurns views other = (j : ℕ) (v : View S A R) → get_elem? other j ≡ some v → v.turn ≡ true → get_elem? views j ≡ some v

  pub had-set : (views other : List (View S A R)) (id : ℕ) (w : View S A R) → w.turn ≡ false → HadTurns views other → HadTurns views (set other id w)
  had-set views other id w none had j u e t = ⊎_elim
      (λ (x : (j ≡ id) × (w ≡ u)). absurd (true≢false (sym t ∙ (ap (λ (y : View S A R). y.turn) (sym x.1) ∙ none))))
      (λ (x : (j ≢ id) × (get_elem? other j ≡ some u)). had j u x.1 t)
      (at_set other id j w u e)

  pub had-push : (views other : List (View S A R)) (w : View S A R) → w.turn ≡ false → HadTurns views other → HadTurns views (other ++ w ∷ [])
  had-push views other w none had j u e t = ⊎_elim
      (λ (there : get_elem? other j ≡ some u). had j u there t)
      (λ (x : (j ≡ length other) × (w ≡ u)). absurd (true≢false (sym t ∙ (ap (λ (y : View S A R). y.turn) (sym x.1) ∙ none))))
      (there_pushed other w u j e)

  pub had_all : (views : List (View S A R)) → HadTurns views views
  had_all views j u e t = e

module _ {S A R : Type 0} (m : Meaning S A R) (slots : ℕ) (s : State (Contents S) (View S A R)) (kept : IsRuled m slots s) where
  -- other views, among which as many are entered, and nobody has the turn that hadn't
  pub views_keep : (views : List (View S A R)) → crowd_of views ≡ crowd_of s.views → HadTurns s.views views → (HasHolder s.views → HasHolder views) →
      Seats entry_seat slots all_places kept.log (map seat_of_view views) → AllFit (state_of m kept.log) views → IsRuled m slots (record { words = s.words; homes = s.homes; views = views })
  views_keep views crowd had held seats each = record {
    log = kept.log;
    holder = kept.holder;
    legal = kept.legal;
    bare = kept.bare;
    words = kept.words;
    home = λ e. let home = kept.home e in record { contents = home.contents; there = home.there; represents = home.represents; counted = home.counted ∙ sym crowd };
    held = λ taken. held (kept.held taken);
    turns = λ j u e t.
        let was = kept.turns j u (had j u e t) t in
        record { taken = was.taken; alone = was.alone; lives = was.lives; place = was.place; newest = was.newest; crowd = was.crowd ∙ sym crowd };
    seats = seats;
    each = each;
  }

  -- a load by a seat without the turn, by which its view changes, but not whether it is entered
  pub load_keeps : (id : ℕ) (v w : View S A R) (c : List (ℕ × Contents S)) → get_elem? s.views id ≡ some v → v.turn ≡ false → w.turn ≡ false → w.entered ≡ v.entered →
      Seats entry_seat slots all_places kept.log (set (map seat_of_view s.views) id w.seats) → FitsRule (state_of m kept.log) w → IsRuled m slots (stepped s 0 (slice_index s.words 0) id c w keeps)
  load_keeps id v w c at none still same seats fits =
      subst (λ (ws : List ℕ). IsRuled m slots (record { words = ws; homes = s.homes; views = set s.views id w })) (sym (set-get_or s.words 0 0))
      (views_keep (set s.views id w) crowd (had-set s.views s.views id w still (had_all s.views)) (holder-set s.views id v w at none)
      (subst (λ sides. Seats entry_seat slots all_places kept.log sides) (sym (map-set seat_of_view s.views id w)) seats)
      (each-set (state_of m kept.log) s.views id w fits kept.each))
    where
      crowd : crowd_of (set s.views id w) ≡ crowd_of s.views
      crowd = let more = crowd-set s.views id v w at in let one = ap one_if same in omega (arith, more, one)

  -- a load that changes nothing
  pub stays_put : (id : ℕ) (v : View S A R) (c : List (ℕ × Contents S)) → get_elem? s.views id ≡ some v → IsRuled m slots (stepped s 0 (slice_index s.words 0) id c v keeps)
  stays_put id v c at =
      subst (λ (vs : List (View S A R)). IsRuled m slots (record { words = set s.words 0 (slice_index s.words 0); homes = s.homes; views = vs })) (sym (set_again s.views id v at))
      (subst (λ (ws : List ℕ). IsRuled m slots (record { words = ws; homes = s.homes; views = s.views })) (sym (set-get_or s.words 0 0)) kept)
