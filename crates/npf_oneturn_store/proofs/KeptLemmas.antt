-- What stays so as places, cells and flags change.
use Rattle.std.proofs.Common.{◌≡◌, ◌≢◌, ℕ, zero, suc, ◌+◌, ◌-◌, ◌*◌, ◌<◌, ◌≤◌, Bool, true, false, List, [], ◌∷◌, ◌++◌, length, get_or, set, Option, Some, None, refl, ap, sym, ◌∙◌, arith, ⊎_elim}
use Rattle.std.proofs.lemmas.{Bool.cases_eq, List.{get_or-set_same, get_or-set_other}}
use Rattle.npf_types.specs.declared.key.Key.{Key}
use Rattle.npf_core.specs.declared.hold.Holding.{Holding}
use Rattle.npf_oneturn_store.specs.{Hash.bucket_of, Places.{standing, found_in, first_found, holder_among, key_place, IsStale, IsUnnamed, AreKept}}
use Rattle.npf_oneturn_store.proofs.{HolderLemmas.still_there, HomeLemmas.{some_holding, holder_here}}

-- a place more, at which nothing stands
pub standing_added : (xs : List (Option Holding)) (place : ℕ) → standing (xs ++ None ∷ []) place ≡ standing xs place
standing_added [] zero = refl
standing_added [] (suc place) = refl
standing_added (x ∷ xs) zero = refl
standing_added (x ∷ xs) (suc place) = standing_added xs place

pub holder_added : (xs : List (Option Holding)) (key : Key) → holder_among (xs ++ None ∷ []) key ≡ holder_among xs key
holder_added [] key = refl
holder_added (x ∷ xs) key = ap (λ rest. first_found (found_in key x) rest) (holder_added xs key)

pub kept_new : (buckets : ℕ) (cells : List ℕ) (spilled : List Bool) → AreKept buckets [] cells spilled
kept_new buckets cells spilled = record { home = λ q h there. absurd cc; once = λ q r h g there here. absurd cc; named = λ q h there. absurd cc }

-- a cell of a bucket that has a place's number names it
pub named_by : (cells : List ℕ) (cell place bucket : ℕ) → cell < length cells → bucket * 16 ≤ cell → cell < bucket * 16 + 16 →
    ¬ IsUnnamed (set cells cell place) bucket place
named_by cells cell place bucket within low high unnamed =
    unnamed (cell - bucket * 16) (omega (arith, low, high))
    (ap (λ c. get_or (set cells cell place) c 0) (omega (arith, low)) ∙ get_or-set_same cells cell place 0 within)

module _ (buckets : ℕ) (xs : List (Option Holding)) (cells : List ℕ) (spilled : List Bool) (kept : AreKept buckets xs cells spilled) where
  -- a cell that none of its bucket's keys needs names another place
  pub kept_renamed : (bucket cell name : ℕ) → bucket * 16 ≤ cell → cell < bucket * 16 + 16 → IsStale buckets xs bucket (get_or cells cell 0) →
      AreKept buckets xs (set cells cell name) spilled
  kept_renamed bucket cell name low high stale = record { home = kept.home; once = kept.once; named = named }
    where
      in_bucket : (other i : ℕ) → i < 16 → other * 16 + i ≡ cell → other ≡ bucket
      in_bucket other i small e = omega (arith, low, high)

      named : (place : ℕ) (holding : Holding) → standing xs place ≡ Some holding → get_or spilled (bucket_of buckets holding.key) false ≡ false →
          ¬ IsUnnamed (set cells cell name) (bucket_of buckets holding.key) place
      named place holding there dry unnamed = kept.named place holding there dry (λ i small names. ⊎_elim
          (λ (e : bucket_of buckets holding.key * 16 + i ≡ cell).
          let old : get_or cells cell 0 ≡ place = ap (λ c. get_or cells c 0) (sym e) ∙ names in
          stale holding (ap (λ q. standing xs q) old ∙ there) (in_bucket (bucket_of buckets holding.key) i small e))
          (λ (other : bucket_of buckets holding.key * 16 + i ≢ cell).
          unnamed i small (get_or-set_other cells cell (bucket_of buckets holding.key * 16 + i) name 0 other ∙ names))
          (cases_eq (bucket_of buckets holding.key * 16 + i) cell))

  -- a bucket is spilled from now on
  pub kept_spilled : (bucket : ℕ) → bucket < length spilled → AreKept buckets xs cells (set spilled bucket true)
  kept_spilled bucket within = record { home = kept.home; once = kept.once; named = named }
    where
      named : (place : ℕ) (holding : Holding) → standing xs place ≡ Some holding → get_or (set spilled bucket true) (bucket_of buckets holding.key) false ≡ false →
          ¬ IsUnnamed cells (bucket_of buckets holding.key) place
      named place holding there dry = ⊎_elim
          (λ (e : bucket_of buckets holding.key ≡ bucket).
          let full : get_or (set spilled bucket true) (bucket_of buckets holding.key) false ≡ true =
          ap (λ b. get_or (set spilled bucket true) b false) e ∙ get_or-set_same spilled bucket true false within in
          absurd cc)
          (λ (other : bucket_of buckets holding.key ≢ bucket).
          kept.named place holding there (sym (get_or-set_other spilled bucket (bucket_of buckets holding.key) true false other) ∙ dry))
          (cases_eq (bucket_of buckets holding.key) bucket)

  -- a key without a holder is put at its holder's place, which its bucket names unless it is spilled
  pub kept_given : (x : Holding) (place : ℕ) → place < length xs → key_place x.found ≡ place → holder_among xs x.key ≡ None →
      (get_or spilled (bucket_of buckets x.key) false ≡ false → ¬ IsUnnamed cells (bucket_of buckets x.key) place) →
      AreKept buckets (set xs place (Some x)) cells spilled
  kept_given x place within home unheld new = record { home = homes; once = once; named = named }
    where
      is_new : (q : ℕ) (h : Holding) → q ≡ place → standing (set xs place (Some x)) q ≡ Some h → x ≡ h
      is_new q h e there = some_holding x h (sym (ap (λ r. standing (set xs place (Some x)) r) e ∙ get_or-set_same xs place (Some x) None within) ∙ there)

      is_old : (q : ℕ) (h : Holding) → q ≢ place → standing (set xs place (Some x)) q ≡ Some h → standing xs q ≡ Some h
      is_old q h ne there = still_there xs place (Some x) q h ne there

      not_held : (q : ℕ) (h : Holding) → standing xs q ≡ Some h → h.key ≢ x.key
      not_held q h there same =
          let held : holder_among xs x.key ≡ Some h.found = ap (λ k. holder_among xs k) (sym same) ∙ holder_here buckets xs cells spilled kept q h there in
          absurd cc

      homes : (q : ℕ) (h : Holding) → standing (set xs place (Some x)) q ≡ Some h → key_place h.found ≡ q
      homes q h there = ⊎_elim
          (λ (e : q ≡ place). ap (λ (y : Holding). key_place y.found) (sym (is_new q h e there)) ∙ (home ∙ sym e))
          (λ (ne : q ≢ place). kept.home q h (is_old q h ne there))
          (cases_eq q place)

      once : (q r : ℕ) (h g : Holding) → standing (set xs place (Some x)) q ≡ Some h → standing (set xs place (Some x)) r ≡ Some g → h.key ≡ g.key → q ≡ r
      once q r h g here there same = ⊎_elim
          (λ (e : q ≡ place). ⊎_elim
          (λ (f : r ≡ place). e ∙ sym f)
          (λ (nf : r ≢ place). absurd (not_held r g (is_old r g nf there) (sym same ∙ ap (λ (y : Holding). y.key) (sym (is_new q h e here)))))
          (cases_eq r place))
          (λ (ne : q ≢ place). ⊎_elim
          (λ (f : r ≡ place). absurd (not_held q h (is_old q h ne here) (same ∙ ap (λ (y : Holding). y.key) (sym (is_new r g f there)))))
          (λ (nf : r ≢ place). kept.once q r h g (is_old q h ne here) (is_old r g nf there) same)
          (cases_eq r place))
          (cases_eq q place)

      named : (q : ℕ) (h : Holding) → standing (set xs place (Some x)) q ≡ Some h → get_or spilled (bucket_of buckets h.key) false ≡ false →
          ¬ IsUnnamed cells (bucket_of buckets h.key) q
      named q h there = ⊎_elim
          (λ (e : q ≡ place). rw (e, ← (is_new q h e there)) new)
          (λ (ne : q ≢ place). kept.named q h (is_old q h ne there))
          (cases_eq q place)

  -- where no key has a holder, whatever cells and flags are
  pub kept_unheld : (others : List ℕ) (flags : List Bool) → ((key : Key) → holder_among xs key ≡ None) → AreKept buckets xs others flags
  kept_unheld others flags none = record {
    home = kept.home;
    once = kept.once;
    named = λ q h there. absurd (let held = holder_here buckets xs cells spilled kept q h there in let no = none h.key in cc);
  }

  -- a place more
  pub kept_added : AreKept buckets (xs ++ None ∷ []) cells spilled
  kept_added = record {
    home = λ q h there. kept.home q h (sym (standing_added xs q) ∙ there);
    once = λ q r h g here there. kept.once q r h g (sym (standing_added xs q) ∙ here) (sym (standing_added xs r) ∙ there);
    named = λ q h there. kept.named q h (sym (standing_added xs q) ∙ there);
  }

  -- a place has nothing from now on
  pub kept_cleared : (place : ℕ) → place < length xs → AreKept buckets (set xs place None) cells spilled
  kept_cleared place within = record {
    home = λ q h there. kept.home q h (was q h there);
    once = λ q r h g here there. kept.once q r h g (was q h here) (was r g there);
    named = λ q h there. kept.named q h (was q h there);
  }
    where
      was : (q : ℕ) (h : Holding) → standing (set xs place None) q ≡ Some h → standing xs q ≡ Some h
      was q h there = ⊎_elim
          (λ (e : q ≡ place).
          let gone : standing (set xs place None) q ≡ None = ap (λ r. standing (set xs place None) r) e ∙ get_or-set_same xs place None None within in
          absurd cc)
          (λ (ne : q ≢ place). still_there xs place None q h ne there)
          (cases_eq q place)
