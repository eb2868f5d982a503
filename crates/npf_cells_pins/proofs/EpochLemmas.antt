-- The part on epochs stays through the base's moves, and through a step by what it shows of one seat.
use Rattle.std.specs.List.{Contains}
use Rattle.std.proofs.Common.{◌≡◌, ◌≢◌, ◌⊎◌, ℕ, ◌+◌, ◌^◌, ◌≤◌, max, Bool, true, false, cond, eqb, List, [], ◌∷◌, ◌++◌, set, take, drop, refl, sym, ap, ◌∙◌, subst, ⊎_elim, inl, inr, arith}
use Rattle.std.proofs.lemmas.{Bool.cases_eq, List.Sums.{sum_by-append, sum_by_push, sum_by-take-drop}}
use mathlib.Core.Option.{some}
use lib.ListN.{get_elem?}
use Rattle.atomic_table.proofs.Lists.{at_set, at_snoc, set_else}
use Rattle.npf_connections.specs.Worn.{last_epoch}
use Rattle.npf_seats.{specs.Sums.occurs, proofs.{PrefixLemmas.none_listed, SumLemmas.sum-set}}
use Rattle.npf_cells_pins.specs.declared.pin.Pin.{Pin, TheVariants.Idle}
use Rattle.npf_cells_pins.specs.Epochs.{idle_side, ReaderView, pin_place, pin_word, reader_holds, NotProtectedBefore, FitsEpochs, Epochs, all_raises}
use Rattle.npf_cells_pins.specs.{Pinning.joined_epochs, PinsLaw.{HoldsEpochBack, ScansPassBy}}

nothing_either : (b : Bool) (n : ℕ) → n ≡ 0 → cond b n 0 ≡ 0
nothing_either true n e = e
nothing_either false n e = refl

-- no seat loaded an epoch past the last
pub within_last : (now : ℕ) (reader : ℕ → ℕ) (readings : List ReaderView) → Epochs now reader readings → (j : ℕ) (r : ReaderView) → get_elem? readings j ≡ some r →
    r.side.greatest ≤ last_epoch
within_last now reader readings kept j r at = let known = (kept.each j r at).greatest in let most = kept.most in omega (arith, known, most)

-- the reader words of a pass that isn't pinned are idle
pub idle_holds : (r : ReaderView) → r.side.pin ≡ Idle → (place : ℕ) → reader_holds r place ≡ 0
idle_holds r idle place = nothing_either (eqb place (pin_place r.places)) (pin_word r.side.pin) (ap pin_word idle)

free_pin : (pin : Pin) → pin ≡ Idle → (n : ℕ) → NotProtectedBefore n pin
free_pin pin idle n = rw idle tt

module _ (now : ℕ) (reader : ℕ → ℕ) (readings : List ReaderView) where
  -- a view of a seat that comes from one that stood there
  record ComesFrom (r : ReaderView) : Type 0 where
    pub fits : FitsEpochs now reader r
    pub scanner : (place : ℕ) → Contains r.side.scanned place → (i : ℕ) × (o : ReaderView) × (get_elem? readings i ≡ some o) × Contains o.side.scanned place × (o.side.loaded ≡ r.side.loaded)
    pub target : ((n : ℕ) → NotProtectedBefore n r.side.pin) ⊎ ((j : ℕ) × (o : ReaderView) × (get_elem? readings j ≡ some o) × (pin_place o.places ≡ pin_place r.places) × (o.side.pin ≡ r.side.pin))

  module _ (kept : Epochs now reader readings) where
    epochs_from : (after : List ReaderView) → now ≡ 2 + all_raises after → ((j : ℕ) (r : ReaderView) → get_elem? after j ≡ some r → ComesFrom r) → Epochs now reader after
    epochs_from after counted comes = record {
      from = kept.from;
      most = kept.most;
      counted = counted;
      each = λ j r e. (comes j r e).fits;
      scans = λ i j r q e d c.
          let s = (comes i r e).scanner (pin_place q.places) c in
          ⊎_elim
          (λ free. free r.side.loaded)
          (λ t.
          let here : Contains s.1.side.scanned (pin_place t.1.places) = subst (λ (p : ℕ). Contains s.1.side.scanned p) (sym t.3) s.3 in
          subst (λ (y : ℕ × Pin). NotProtectedBefore y.0 y.1) (λ k. (s.4 k, t.4 k)) (kept.scans s.0 t.0 s.1 t.1 s.2 t.2 here))
          (comes j q d).target;
    }

    as_it_was : (j : ℕ) (r : ReaderView) → get_elem? readings j ≡ some r → ComesFrom r
    as_it_was j r e = record {
      fits = kept.each j r e;
      scanner = λ place c. (j, r, e, c, refl);
      target = inr (j, r, e, refl, refl);
    }

    -- an idle pass that owns no place but such as it owned, or as another idle pass owned
    idle_word : (j : ℕ) (r : ReaderView) → get_elem? readings j ≡ some r → r.side.pin ≡ Idle → (place : ℕ) → 1 ≤ occurs place r.places → reader place ≡ 0
    idle_word j r e idle place owns = (kept.each j r e).kept place owns ∙ idle_holds r idle place

    -- a new idle pass, of places whose words are idle
    newly : (places : List ℕ) → ((place : ℕ) → 1 ≤ occurs place places → reader place ≡ 0) → ComesFrom (record { places = places; side = idle_side })
    newly places idle = record {
      fits = record {
        loaded = omega arith;
        greatest = omega arith;
        known = omega arith;
        guards = tt;
        kept = λ place owns. idle place owns ∙ sym (idle_holds (record { places = places; side = idle_side }) refl place);
        pinned = λ _. refl;
      };
      scanner = λ place c. absurd (none_listed place c);
      target = inl (λ n. tt);
    }

    -- an idle pass with other places, whose words are idle too
    resettled : (j : ℕ) (r : ReaderView) (places : List ℕ) (greatest known raises : ℕ) → get_elem? readings j ≡ some r → r.side.pin ≡ Idle → greatest ≤ now → known ≤ now →
        ((place : ℕ) → 1 ≤ occurs place places → reader place ≡ 0) → ComesFrom (record { places = places; side = record r.side { greatest = greatest; known = known; raises = raises } })
    resettled j r places greatest known raises e idle found le words = record {
      fits = record {
        loaded = (kept.each j r e).loaded;
        greatest = found;
        known = le;
        guards = (kept.each j r e).guards;
        kept = λ place owns. words place owns ∙ sym (idle_holds (record { places = places; side = record r.side { greatest = greatest; known = known; raises = raises } }) idle place);
        pinned = λ _. idle;
      };
      scanner = λ place c. (j, r, e, c, refl);
      target = inl (free_pin r.side.pin idle);
    }

    some_of : (r : ReaderView) (k place : ℕ) → (1 ≤ occurs place (take k r.places) → 1 ≤ occurs place r.places) × (1 ≤ occurs place (drop k r.places) → 1 ≤ occurs place r.places)
    some_of r k place =
        let parts = sum_by-take-drop (λ (x : ℕ). cond (eqb x place) 1 0) r.places k in (
          (λ owns. omega (arith, parts, owns)),
          (λ owns. omega (arith, parts, owns)),
        )

    pub epochs-split : (id k : ℕ) (r : ReaderView) → get_elem? readings id ≡ some r → r.side.pin ≡ Idle →
        Epochs now reader (set readings id (record { places = take k r.places; side = r.side }) ++ record { places = drop k r.places; side = idle_side } ∷ [])
    epochs-split id k r e idle = epochs_from _ counted (λ j q d. ⊎_elim
        (λ (there : get_elem? (set readings id (record { places = take k r.places; side = r.side })) j ≡ some q). ⊎_elim
        (λ (x : (j ≡ id) × (record { places = take k r.places; side = r.side } ≡ q)). subst ComesFrom x.1
        (resettled id r (take k r.places) r.side.greatest r.side.known r.side.raises e idle (kept.each id r e).greatest
        (kept.each id r e).known (λ place owns. idle_word id r e idle place ((some_of r k place).0 owns))))
        (λ (x : (j ≢ id) × (get_elem? readings j ≡ some q)). as_it_was j q x.1)
        (at_set readings id j _ q there))
        (λ (x : record { places = drop k r.places; side = idle_side } ≡ q). subst ComesFrom x
        (newly (drop k r.places) (λ place owns. idle_word id r e idle place ((some_of r k place).1 owns))))
        (at_snoc _ _ q j d))
      where
        counted : now ≡ 2 + all_raises (set readings id (record { places = take k r.places; side = r.side }) ++ record { places = drop k r.places; side = idle_side } ∷ [])
        counted =
            let left : ReaderView = record { places = take k r.places; side = r.side } in
            let right : ReaderView = record { places = drop k r.places; side = idle_side } in
            let one : all_raises (set readings id left) + r.side.raises ≡ all_raises readings + r.side.raises = sum-set (λ (u : ReaderView). u.side.raises) readings id r left e in
            let two : all_raises (set readings id left ++ right ∷ []) ≡ all_raises (set readings id left) + 0 = sum_by_push (λ (u : ReaderView). u.side.raises) (set readings id left) right in
            let all = kept.counted in
            omega (arith, one, two, all)

    pub epochs-join : (id other : ℕ) (r q : ReaderView) → other ≢ id → get_elem? readings id ≡ some r → get_elem? readings other ≡ some q → r.side.pin ≡ Idle → q.side.pin ≡ Idle →
        Epochs now reader (set (set readings id (record { places = r.places ++ q.places; side = joined_epochs r.side q.side })) other (record { places = []; side = idle_side }))
    epochs-join id other r q apart e d r-idle q-idle =
        let both : ReaderView = record { places = r.places ++ q.places; side = joined_epochs r.side q.side } in
        epochs_from _ counted (λ j u f. ⊎_elim
        (λ (x : (j ≡ other) × (record { places = []; side = idle_side } ≡ u)). subst ComesFrom x.1 (newly [] (λ place owns. absurd (omega (arith, owns)))))
        (λ (x : (j ≢ other) × (get_elem? (set readings id both) j ≡ some u)). ⊎_elim
        (λ (y : (j ≡ id) × (both ≡ u)). subst ComesFrom y.1 (resettled id r (r.places ++ q.places) (max r.side.greatest q.side.greatest)
        (max r.side.known q.side.known) (r.side.raises + q.side.raises) e r-idle found most words))
        (λ (y : (j ≢ id) × (get_elem? readings j ≡ some u)). as_it_was j u y.1)
        (at_set readings id j both u x.1))
        (at_set (set readings id both) other j _ u f))
      where
        counted : now ≡ 2 + all_raises (set (set readings id (record { places = r.places ++ q.places; side = joined_epochs r.side q.side })) other (record { places = []; side = idle_side }))
        counted =
            let both : ReaderView = record { places = r.places ++ q.places; side = joined_epochs r.side q.side } in
            let none : ReaderView = record { places = []; side = idle_side } in
            let one : all_raises (set readings id both) + r.side.raises ≡ all_raises readings + (r.side.raises + q.side.raises) = sum-set (λ (u : ReaderView). u.side.raises) readings id r both e in
            let two : all_raises (set (set readings id both) other none) + q.side.raises ≡ all_raises (set readings id both) + 0
            = sum-set (λ (u : ReaderView). u.side.raises) (set readings id both) other q none (set_else readings id other both apart ∙ d) in
            let all = kept.counted in
            omega (arith, one, two, all)

        found : max r.side.greatest q.side.greatest ≤ now
        found = let a = (kept.each id r e).greatest in let b = (kept.each other q d).greatest in omega (arith, a, b)

        most : max r.side.known q.side.known ≤ now
        most = let a = (kept.each id r e).known in let b = (kept.each other q d).known in omega (arith, a, b)

        words : (place : ℕ) → 1 ≤ occurs place (r.places ++ q.places) → reader place ≡ 0
        words place owns =
            let parts = sum_by-append (λ (x : ℕ). cond (eqb x place) 1 0) r.places q.places in
            ⊎_elim
            (λ (none : occurs place r.places ≡ 0). idle_word other q d q-idle place (omega (arith, parts, owns, none)))
            (λ (some' : occurs place r.places ≢ 0). idle_word id r e r-idle place (omega (arith, some')))
            (cases_eq (occurs place r.places) 0)

-- the part speaks of no reader word but those that a pass owns
pub epochs-words : (now : ℕ) (reader reader' : ℕ → ℕ) (readings : List ReaderView) → Epochs now reader readings →
    ((j place : ℕ) (q : ReaderView) → get_elem? readings j ≡ some q → 1 ≤ occurs place q.places → reader' place ≡ reader place) → Epochs now reader' readings
epochs-words now reader reader' readings kept same = record {
  from = kept.from;
  most = kept.most;
  counted = kept.counted;
  each = λ j q e.
      let fits = kept.each j q e in
      record {
        loaded = fits.loaded;
        greatest = fits.greatest;
        known = fits.known;
        guards = fits.guards;
        kept = λ place owns. same j place q e owns ∙ fits.kept place owns;
        pinned = fits.pinned;
      };
  scans = kept.scans;
}

-- what a step of one seat has to show, that changes its own side, the epoch or a reader word
pub record Change (now' : ℕ) (reader' : ℕ → ℕ) (readings : List ReaderView) (id : ℕ) (w : ReaderView) : Type 0 where
  pub from : 2 ≤ now'
  pub most : now' ≤ 2 ^ 62
  pub counted : now' ≡ 2 + all_raises (set readings id w)
  pub fits : FitsEpochs now' reader' w
  pub others : (j : ℕ) (q : ReaderView) → j ≢ id → get_elem? readings j ≡ some q → FitsEpochs now' reader' q
  pub scanner : (j : ℕ) (q : ReaderView) → j ≢ id → get_elem? readings j ≡ some q → Contains w.side.scanned (pin_place q.places) → NotProtectedBefore w.side.loaded q.side.pin
  pub target : (i : ℕ) (r : ReaderView) → i ≢ id → get_elem? readings i ≡ some r → Contains r.side.scanned (pin_place w.places) → NotProtectedBefore r.side.loaded w.side.pin
  pub itself : Contains w.side.scanned (pin_place w.places) → NotProtectedBefore w.side.loaded w.side.pin

pub changed : (now now' : ℕ) (reader reader' : ℕ → ℕ) (readings : List ReaderView) (id : ℕ) (w : ReaderView) → Epochs now reader readings →
    Change now' reader' readings id w → Epochs now' reader' (set readings id w)
changed now now' reader reader' readings id w kept c = record {
  from = c.from;
  most = c.most;
  counted = c.counted;
  each = λ j r e. ⊎_elim
      (λ (x : (j ≡ id) × (w ≡ r)). subst (λ (u : ReaderView). FitsEpochs now' reader' u) x.1 c.fits)
      (λ (x : (j ≢ id) × (get_elem? readings j ≡ some r)). c.others j r x.0 x.1)
      (at_set readings id j w r e);
  scans = λ i j r q e d. ⊎_elim
      (λ (x : (i ≡ id) × (w ≡ r)). ⊎_elim
      (λ (y : (j ≡ id) × (w ≡ q)). subst (λ (u : ReaderView × ReaderView). Contains u.0.side.scanned (pin_place u.1.places) →
      NotProtectedBefore u.0.side.loaded u.1.side.pin) (λ k. (x.1 k, y.1 k)) c.itself)
      (λ (y : (j ≢ id) × (get_elem? readings j ≡ some q)). subst (λ (u : ReaderView). Contains u.side.scanned (pin_place q.places) →
      NotProtectedBefore u.side.loaded q.side.pin) x.1 (c.scanner j q y.0 y.1))
      (at_set readings id j w q d))
      (λ (x : (i ≢ id) × (get_elem? readings i ≡ some r)). ⊎_elim
      (λ (y : (j ≡ id) × (w ≡ q)). subst (λ (u : ReaderView). Contains r.side.scanned (pin_place u.places) → NotProtectedBefore r.side.loaded u.side.pin) y.1 (c.target i r x.0 x.1))
      (λ (y : (j ≢ id) × (get_elem? readings j ≡ some q)). kept.scans i j r q x.1 y.1)
      (at_set readings id j w q d))
      (at_set readings id i w r e);
}

pub holds_epoch_back : HoldsEpochBack
holds_epoch_back now reader readings j pinned epoch r kept at is =
    let guards : (pinned ≤ epoch) × (epoch ≤ now) × (now ≤ epoch + 1) = rw is at (kept.each j r at).guards in
    (guards.1, guards.2)

pub scans_pass_by : ScansPassBy
scans_pass_by now reader readings i j r q kept at there c = kept.scans i j r q at there c
