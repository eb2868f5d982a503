-- Scans of the readers, one after the other.
use Rattle.std.proofs.Common.{◌≡◌, ℕ, ◌+◌, ◌<◌, Bool, true, false, ◌==◌, ◌||◌, cond, List, [], ◌∷◌, refl, sym, ap, ◌∙◌, subst, ⊎_elim, arith}
use Rattle.std.{specs.List.Contains, proofs.lemmas.{Bool.cases_eq, List.Elements.{Contains-append_left, Contains-append_right, Contains-push}}}
use Rattle.atomic_table.specs.Table.{Me}
use Rattle.npf_cells_rule.specs.{declared.view.CellView.CellView, Views.with_epochs}
use Rattle.npf_cells_pins.specs.{declared.pin.EpochSide.EpochSide, Pinning.{passes_by, scanning}}

-- a scan, by whether it passed the reader by
abbrev after_scan : EpochSide → ℕ → Bool → EpochSide
after_scan side reader b = record side { scanned = cond b (reader ∷ side.scanned) side.scanned; behind = cond b side.behind (reader ∷ side.behind) }

module _ {S A R F : Type 0} where
  -- the pass has scanned the readers below n, and found none pinned in another epoch
  pub record ScansBelow (old : Me F (CellView S A R)) (n : ℕ) (now : Me F (CellView S A R)) : Type 0 where
    pub scanned : List ℕ
    pub is : now ≡ with_epochs old (record old.0.epochs { scanned = scanned })
    pub below : (k : ℕ) → k < n → Contains scanned k

  pub none_scanned : (me : Me F (CellView S A R)) → ScansBelow me 0 me
  none_scanned me = record { scanned = me.0.epochs.scanned; is = refl; below = λ k h. absurd (omega (arith, h)) }

  pub passes_alike : (old now : Me F (CellView S A R)) (n found epoch : ℕ) (b : Bool) → ScansBelow old n now → old.0.epochs.loaded ≡ epoch →
      b ≡ ((found == 0) || (found == epoch + 1)) → passes_by now.0.epochs found ≡ b
  passes_alike old now n found epoch b so loaded is =
      ap (λ l. (found == 0) || (found == l + 1)) (ap (λ (y : Me F (CellView S A R)). y.0.epochs.loaded) so.is ∙ loaded) ∙ sym is

  pub one_more : (old now next : Me F (CellView S A R)) (n found : ℕ) → ScansBelow old n now → passes_by now.0.epochs found ≡ true →
      next ≡ with_epochs now (scanning now.0.epochs n found) → ScansBelow old (n + 1) next
  one_more old now next n found so by is = record {
    scanned = n ∷ so.scanned;
    is = is ∙ (ap (λ b. with_epochs now (after_scan now.0.epochs n b)) by ∙ ap (λ (me : Me F (CellView S A R)). with_epochs me (record me.0.epochs { scanned = n ∷ me.0.epochs.scanned })) so.is);
    below = λ k h. ⊎_elim
        (λ (e : k ≡ n). subst (λ i. Contains (n ∷ so.scanned) i) (sym e) (Contains-append_left (n ∷ []) so.scanned n (Contains-push [] n)))
        (λ ne. Contains-append_right (n ∷ []) so.scanned k (so.below k (omega (arith, h, ne))))
        (cases_eq k n);
  }

  pub one_behind : (old now next : Me F (CellView S A R)) (n found : ℕ) (so : ScansBelow old n now) → passes_by now.0.epochs found ≡ false →
      next ≡ with_epochs now (scanning now.0.epochs n found) → next ≡ with_epochs old (record old.0.epochs { scanned = so.scanned; behind = n ∷ old.0.epochs.behind })
  one_behind old now next n found so by is =
      is ∙ (ap (λ b. with_epochs now (after_scan now.0.epochs n b)) by ∙ ap (λ (me : Me F (CellView S A R)). with_epochs me (record me.0.epochs { behind = n ∷ me.0.epochs.behind })) so.is)
