-- From what each lane shows to the whole.
use Rattle.std.proofs.{Common.{◌≡◌, ℕ, ◌==◌, Bool, true, false, List, [], ◌∷◌, cond, length, refl, sym, ap, subst, ◌∙◌, arith}, lemmas.Bool.Decides.Decides-eqb}
use Rattle.npf_runner_dealing.{specs.Lanes.of_lane, proofs.LaneLemmas.{of_lane-yes, of_lane-no}}

-- three lists of one length, place by place in this relation
abbrev pub Zips : {X Y Z : Type 0} → (X → Y → Z → Type 0) → List X → List Y → List Z → Type 0
Zips R [] [] [] = Unit {0}
Zips R (x ∷ xs) (y ∷ ys) (z ∷ zs) = R x y z × Zips R xs ys zs
Zips R _ _ _ = ⊥

module _ {X Y Z : Type 0} (R : X → Y → Z → Type 0) where
  -- the middle list, put together from those of the lanes
  pub record Merges (order : List ℕ) (xs : List X) (zs : List Z) (lane : ℕ → List Y) : Type 0 where
    pub ys : List Y
    pub each : (w : ℕ) → of_lane w order ys ≡ lane w
    pub zips : Zips R xs ys zs

  heads : (x : X) (xs : List X) (ys : List Y) (z : Z) (zs : List Z) → Zips R (x ∷ xs) ys (z ∷ zs) → (y : Y) × (rest : List Y) × (ys ≡ y ∷ rest) × R x y z × Zips R xs rest zs
  heads x xs [] z zs h = absurd h
  heads x xs (y ∷ ys) z zs h = (y, ys, refl, h.0, h.1)

  abbrev LeftOf : ℕ → List Y → (ℕ → List Y) → ℕ → List Y
  LeftOf v rest lane w = cond (v == w) rest (lane w)

  pub merges : (order : List ℕ) (xs : List X) (zs : List Z) (lane : ℕ → List Y) → length xs ≡ length order → length zs ≡ length order →
      ((w : ℕ) → Zips R (of_lane w order xs) (lane w) (of_lane w order zs)) → Merges order xs zs lane
  merges [] [] [] lane n m h = record { ys = []; each = λ w. empty (lane w) (h w); zips = tt }
    where
      empty : (ys : List Y) → Zips R [] ys [] → [] ≡ ys
      empty [] h = refl
      empty (y ∷ ys) h = absurd h
  merges [] (x ∷ xs) zs lane n m h = absurd (omega (arith, n))
  merges [] [] (z ∷ zs) lane n m h = absurd (omega (arith, m))
  merges (v ∷ order) [] zs lane n m h = absurd (omega (arith, n))
  merges (v ∷ order) (x ∷ xs) [] lane n m h = absurd (omega (arith, m))
  merges (v ∷ order) (x ∷ xs) (z ∷ zs) lane n m h = whole (merges order xs zs left (omega (arith, n)) (omega (arith, m)) left_zips)
    where
      same : (v == v) ≡ true
      same = (Decides-eqb v v).1 refl

      first : (y : Y) × (rest : List Y) × (lane v ≡ y ∷ rest) × R x y z × Zips R (of_lane v order xs) rest (of_lane v order zs)
      first = heads x (of_lane v order xs) (lane v) z (of_lane v order zs)
          (subst (λ us. Zips R us (lane v) (z ∷ of_lane v order zs)) (of_lane-yes v v order x xs same)
          (subst (λ us. Zips R (of_lane v (v ∷ order) (x ∷ xs)) (lane v) us) (of_lane-yes v v order z zs same) (h v)))

      left : ℕ → List Y
      left = LeftOf v first.1 lane

      left_zips : (w : ℕ) → Zips R (of_lane w order xs) (left w) (of_lane w order zs)
      left_zips w = by_test (v == w) refl
        where
          by_test : (test : Bool) → (v == w) ≡ test → Zips R (of_lane w order xs) (cond test first.1 (lane w)) (of_lane w order zs)
          by_test true is = subst (λ k. Zips R (of_lane k order xs) first.1 (of_lane k order zs)) ((Decides-eqb v w).0 is) first.4
          by_test false is =
              subst (λ us. Zips R us (lane w) (of_lane w order zs)) (of_lane-no v w order x xs is)
              (subst (λ us. Zips R (of_lane w (v ∷ order) (x ∷ xs)) (lane w) us) (of_lane-no v w order z zs is) (h w))

      whole : Merges order xs zs left → Merges (v ∷ order) (x ∷ xs) (z ∷ zs) lane
      whole m' = record {
        ys = first.0 ∷ m'.ys;
        each = each;
        zips = (first.3, m'.zips);
      }
        where
          each : (w : ℕ) → of_lane w (v ∷ order) (first.0 ∷ m'.ys) ≡ lane w
          each w = by_test (v == w) refl (m'.each w)
            where
              by_test : (test : Bool) → (v == w) ≡ test → of_lane w order m'.ys ≡ cond test first.1 (lane w) → of_lane w (v ∷ order) (first.0 ∷ m'.ys) ≡ lane w
              by_test true is e = of_lane-yes v w order first.0 m'.ys is ∙ (ap (λ us. first.0 ∷ us) e ∙ (sym first.2 ∙ ap lane ((Decides-eqb v w).0 is)))
              by_test false is e = of_lane-no v w order first.0 m'.ys is ∙ e
