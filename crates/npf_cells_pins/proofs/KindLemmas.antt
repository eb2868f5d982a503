-- The part on epochs stays through kinds 1 to 6, by what each shows of its own seat.
use Rattle.std.specs.List.{Contains}
use Rattle.std.proofs.Common.{◌≡◌, ◌≢◌, ℕ, ◌+◌, ◌^◌, ◌<◌, ◌≤◌, max, Bool, true, false, true≢false, cond, eqb, eq-eqb, ne_eqb, ◌||◌, List, ◌∷◌, set, length, refl, sym, ap, ◌∙◌, subst, ⊎_elim, arith}
use Rattle.std.proofs.lemmas.Bool.{cases_eq}
use mathlib.Core.Option.{some}
use lib.ListN.{get_elem?}
use Rattle.npf_connections.specs.Pass.{all_places}
use Rattle.npf_seats.{specs.Sums.occurs, proofs.{PrefixLemmas.{none_listed, cons_cases}, SumLemmas.{first_occurs, sum-set}}}
use Rattle.npf_cells_pins.specs.declared.pin.Pin.{Pin, TheVariants.{Idle, Pinned, Protected}}
use Rattle.npf_cells_pins.specs.Epochs.{ReaderView, pin_place, pin_word, PinAllows, NotProtectedBefore, FitsEpochs, Epochs, all_raises, HasScannedAll}
use Rattle.npf_cells_pins.{specs.Pinning.{loading, protecting, pinned_epoch, passes_by, IsMet}, proofs.EpochLemmas.Change}

pinned_apart : (epoch : ℕ) → Pinned epoch ≡ Idle → ⊥
pinned_apart epoch e = cc

protected_apart : (pinned epoch : ℕ) → Protected pinned epoch ≡ Idle → ⊥
protected_apart pinned epoch e = cc

module _ (now : ℕ) (reader : ℕ → ℕ) (readings : List ReaderView) (id : ℕ) (r : ReaderView) (kept : Epochs now reader readings) (at : get_elem? readings id ≡ some r) where
  mine : FitsEpochs now reader r
  mine = kept.each id r at

  sums_with : (w : ReaderView) → all_raises (set readings id w) + r.side.raises ≡ all_raises readings + w.side.raises
  sums_with w = sum-set (λ (u : ReaderView). u.side.raises) readings id r w at

  -- a step that doesn't raise the epoch leaves the count of raises
  still : (w : ReaderView) → w.side.raises ≡ r.side.raises → now ≡ 2 + all_raises (set readings id w)
  still w same = let sums = sums_with w in let all = kept.counted in omega (arith, sums, all, same)

  -- a step on the epoch finds a number within what the pass knows and protects
  pub is_met : IsMet r.side now
  is_met = record { from = kept.from; most = kept.most; loaded = mine.loaded; greatest = mine.greatest; known = mine.known; guarded = mine.guards }

  more_known : max r.side.known now ≤ now
  more_known = let a = mine.known in omega (arith, a)

  more_greatest : max r.side.greatest now ≤ now
  more_greatest = let a = mine.greatest in omega (arith, a)

  pub loads : Change now reader readings id (record { places = r.places; side = loading r.side now })
  loads = record {
    from = kept.from;
    most = kept.most;
    counted = still _ refl;
    fits = record { loaded = omega arith; greatest = more_greatest; known = more_known; guards = mine.guards; kept = mine.kept; pinned = mine.pinned };
    others = λ j q ne e. kept.each j q e;
    scanner = λ j q ne e c. absurd (none_listed (pin_place q.places) c);
    target = λ i q ne e. kept.scans i id q r e at;
    itself = λ c. absurd (none_listed (pin_place r.places) c);
  }

  -- the second load: who scanned this reader loaded an epoch that is no later
  pub protects : (epoch : ℕ) → r.side.pin ≡ Pinned epoch → Change now reader readings id (record { places = r.places; side = protecting r.side now })
  protects epoch is = record {
    from = kept.from;
    most = kept.most;
    counted = still _ refl;
    fits = record {
      loaded = mine.loaded;
      greatest = more_greatest;
      known = more_known;
      guards = (let before : epoch ≤ now = rw is at mine.guards in rw is (before, omega arith, omega arith));
      kept = λ place owns. mine.kept place owns ∙ ap (λ n. cond (eqb place (pin_place r.places)) n 0) word_same;
      pinned = λ none. absurd (pinned_apart epoch (sym is ∙ mine.pinned none));
    };
    others = λ j q ne e. kept.each j q e;
    scanner = λ j q ne e. kept.scans id j r q at e;
    target = λ i q ne e c. (kept.each i q e).loaded;
    itself = λ c. mine.loaded;
  }
    where
      word_same : pin_word r.side.pin ≡ pinned_epoch r.side.pin + 1
      word_same = rw is refl

  -- a reader word that is idle or in the epoch that was loaded is of no pass that is protected from before it
  passed : (q : ReaderView) (place : ℕ) → FitsEpochs now reader q → place ≡ pin_place q.places → passes_by r.side (reader place) ≡ true → NotProtectedBefore r.side.loaded q.side.pin
  passed q place fits here by = by_pin q.side.pin refl
    where
      by_pin : (pin : Pin) → q.side.pin ≡ pin → NotProtectedBefore r.side.loaded pin
      by_pin Idle e = tt
      by_pin (Pinned epoch) e = tt
      by_pin (Protected pinned epoch) e =
          let some' : 1 ≤ length q.places = ⊎_elim (λ none. absurd (protected_apart pinned epoch (sym e ∙ fits.pinned none)))
          (λ (ne : length q.places ≢ 0). omega (arith, ne)) (cases_eq (length q.places) 0) in
          let guards : (pinned ≤ epoch) × (epoch ≤ now) × (now ≤ epoch + 1) = rw e at fits.guards in
          let first = first_occurs q.places some' in
          let word : reader place ≡ pinned + 1 =
          ap reader here
          ∙ (fits.kept (pin_place q.places) first
          ∙ (ap (λ b. cond b (pin_word q.side.pin) 0) (eq-eqb (pin_place q.places) (pin_place q.places) refl) ∙ ap pin_word e)) in
          ⊎_elim
          (λ (is : reader place ≡ 0). absurd (omega (arith, is, word)))
          (λ (ne : reader place ≢ 0). ⊎_elim
          (λ (is : reader place ≡ r.side.loaded + 1). omega (arith, is, word, guards.0))
          (λ (no : reader place ≢ r.side.loaded + 1).
          let f1 = ne_eqb (reader place) 0 ne in
          let f2 = ne_eqb (reader place) (r.side.loaded + 1) no in
          absurd (true≢false (sym by ∙ (ap (λ b. b || eqb (reader place) (r.side.loaded + 1)) f1 ∙ ap (λ b. false || b) f2))))
          (cases_eq (reader place) (r.side.loaded + 1)))
          (cases_eq (reader place) 0)

  pub scans : (place : ℕ) (b : Bool) → passes_by r.side (reader place) ≡ b →
      Change now reader readings id (record {
        places = r.places;
        side = record r.side { scanned = cond b (place ∷ r.side.scanned) r.side.scanned; behind = cond b r.side.behind (place ∷ r.side.behind) };
      })
  scans place false by = record {
    from = kept.from;
    most = kept.most;
    counted = still _ refl;
    fits = record { loaded = mine.loaded; greatest = mine.greatest; known = mine.known; guards = mine.guards; kept = mine.kept; pinned = mine.pinned };
    others = λ j q ne e. kept.each j q e;
    scanner = λ j q ne e. kept.scans id j r q at e;
    target = λ i q ne e. kept.scans i id q r e at;
    itself = kept.scans id id r r at at;
  }
  scans place true by = record {
    from = kept.from;
    most = kept.most;
    counted = still _ refl;
    fits = record { loaded = mine.loaded; greatest = mine.greatest; known = mine.known; guards = mine.guards; kept = mine.kept; pinned = mine.pinned };
    others = λ j q ne e. kept.each j q e;
    scanner = λ j q ne e c. one j q e c;
    target = λ i q ne e. kept.scans i id q r e at;
    itself = one id r at;
  }
    where
      one : (j : ℕ) (q : ReaderView) → get_elem? readings j ≡ some q → Contains (place ∷ r.side.scanned) (pin_place q.places) → NotProtectedBefore r.side.loaded q.side.pin
      one j q e c = ⊎_elim
          (λ (here : place ≡ pin_place q.places). passed q place (kept.each j q e) here by)
          (λ (d : Contains r.side.scanned (pin_place q.places)). kept.scans id j r q at e d)
          (cons_cases place (pin_place q.places) r.side.scanned c)

  -- a store of the own reader word: no other seat owns that place
  pub stores : (reader' : ℕ → ℕ) (pin : Pin) → 1 ≤ length r.places → reader' (pin_place r.places) ≡ pin_word pin → ((place : ℕ) → place ≢ pin_place r.places → reader' place ≡ reader place) →
      ((j : ℕ) (q : ReaderView) → j ≢ id → get_elem? readings j ≡ some q → 1 ≤ occurs (pin_place r.places) q.places → ⊥) →
      PinAllows pin now → ((n : ℕ) → NotProtectedBefore n pin) → Change now reader' readings id (record { places = r.places; side = record r.side { pin = pin } })
  stores reader' pin some' here else' apart guards free = record {
    from = kept.from;
    most = kept.most;
    counted = still _ refl;
    fits = record {
      loaded = mine.loaded;
      greatest = mine.greatest;
      known = mine.known;
      guards = guards;
      kept = λ place owns. ⊎_elim
          (λ (e : place ≡ pin_place r.places). ap reader' e ∙ (here ∙ sym (ap (λ b. cond b (pin_word pin) 0) (eq-eqb place (pin_place r.places) e))))
          (λ (ne : place ≢ pin_place r.places).
          let no = ne_eqb place (pin_place r.places) ne in
          else' place ne ∙ (mine.kept place owns ∙ (ap (λ b. cond b (pin_word r.side.pin) 0) no ∙ sym (ap (λ b. cond b (pin_word pin) 0) no))))
          (cases_eq place (pin_place r.places));
      pinned = λ none. absurd (omega (arith, none, some'));
    };
    others = λ j q ne e.
        let fits = kept.each j q e in
        record {
          loaded = fits.loaded;
          greatest = fits.greatest;
          known = fits.known;
          guards = fits.guards;
          kept = λ place owns. else' place (λ h. apart j q ne e (subst (λ p. 1 ≤ occurs p q.places) h owns)) ∙ fits.kept place owns;
          pinned = fits.pinned;
        };
    scanner = λ j q ne e. kept.scans id j r q at e;
    target = λ i q ne e c. free q.side.loaded;
    itself = λ c. free r.side.loaded;
  }

  -- the epoch is raised by one: no seat is protected from before it
  pub advances : (reader' : ℕ → ℕ) (met greatest known raises : ℕ) → now ≡ r.side.loaded → r.side.loaded < 2 ^ 62 →
      HasScannedAll r.side → greatest ≤ r.side.loaded + 1 → known ≤ r.side.loaded + 1 → raises ≡ r.side.raises + 1 →
      ((place : ℕ) → reader' place ≡ reader place) → ((j place : ℕ) (q : ReaderView) → get_elem? readings j ≡ some q → 1 ≤ occurs place q.places → place < all_places) →
      Change (r.side.loaded + 1) reader' readings id (record { places = r.places; side = record r.side { met = met; greatest = greatest; known = known; raises = raises } })
  advances reader' met greatest known raises same below all found le once words within = record {
    from = (let a = kept.from in omega (arith, a, same));
    most = omega (arith, below);
    counted = (let sums = sums_with (record { places = r.places; side = record r.side { met = met; greatest = greatest; known = known; raises = raises } }) in
        let all = kept.counted in omega (arith, sums, all, same, once));
    fits = record {
      loaded = omega arith;
      greatest = found;
      known = le;
      guards = raised r id at;
      kept = λ place owns. words place ∙ mine.kept place owns;
      pinned = mine.pinned;
    };
    others = λ j q ne e.
        let fits = kept.each j q e in
        record {
          loaded = (let a = fits.loaded in omega (arith, a, same));
          greatest = (let a = fits.greatest in omega (arith, a, same));
          known = (let a = fits.known in omega (arith, a, same));
          guards = raised q j e;
          kept = λ place owns. words place ∙ fits.kept place owns;
          pinned = fits.pinned;
        };
    scanner = λ j q ne e. kept.scans id j r q at e;
    target = λ i q ne e. kept.scans i id q r e at;
    itself = kept.scans id id r r at at;
  }
    where
      raised : (q : ReaderView) (j : ℕ) → get_elem? readings j ≡ some q → PinAllows q.side.pin (r.side.loaded + 1)
      raised q j e = by_pin q.side.pin refl
        where
          fits : FitsEpochs now reader q
          fits = kept.each j q e

          by_pin : (pin : Pin) → q.side.pin ≡ pin → PinAllows pin (r.side.loaded + 1)
          by_pin Idle h = tt
          by_pin (Pinned epoch) h = let before : epoch ≤ now = rw h at fits.guards in omega (arith, before, same)
          by_pin (Protected pinned epoch) h =
              let some' : 1 ≤ length q.places = ⊎_elim (λ none. absurd (protected_apart pinned epoch (sym h ∙ fits.pinned none)))
              (λ (ne : length q.places ≢ 0). omega (arith, ne)) (cases_eq (length q.places) 0) in
              let guards : (pinned ≤ epoch) × (epoch ≤ now) × (now ≤ epoch + 1) = rw h at fits.guards in
              let seen = all (pin_place q.places) (within j (pin_place q.places) q e (first_occurs q.places some')) in
              let late : r.side.loaded ≤ epoch = rw h at (kept.scans id j r q at e seen) in
              (guards.0, omega (arith, guards.1, same), omega (arith, late))

  -- the epoch is another
  pub misses : (met greatest known raises : ℕ) → greatest ≤ now → known ≤ now → raises ≡ r.side.raises →
      Change now reader readings id (record { places = r.places; side = record r.side { met = met; greatest = greatest; known = known; raises = raises } })
  misses met greatest known raises found le none = record {
    from = kept.from;
    most = kept.most;
    counted = still _ none;
    fits = record { loaded = mine.loaded; greatest = found; known = le; guards = mine.guards; kept = mine.kept; pinned = mine.pinned };
    others = λ j q ne e. kept.each j q e;
    scanner = λ j q ne e. kept.scans id j r q at e;
    target = λ i q ne e. kept.scans i id q r e at;
    itself = kept.scans id id r r at at;
  }
