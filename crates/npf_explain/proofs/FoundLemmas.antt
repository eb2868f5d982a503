-- Where the first and the last of a list stand that pass a test, and so the answers of groups.
use Rattle.std.proofs.Common.{◌≡◌, ◌≤◌, ◌<◌, ℕ, zero, suc, ◌+◌, Bool, true, false, ◌&&◌, List, [], ◌∷◌, ◌++◌, Option, Some, None}
use Rattle.std.proofs.Common.{length, slice_get, inl, inr, refl, sym, subst, ap, ◌∙◌, arith}
use Rattle.std.{specs.{Option.option_or, Prelude.if◌then◌else◌}, proofs.lemmas.{Bool.cases_Bool, List.{Concat.flat_map-cons, length-append}}}
use Rattle.npf_types.specs.declared.{direction.Dir.Dir, facts.Facts.Facts, interface.IfId.IfId}
use Rattle.npf_model.specs.{declared.group.Group.Group, Describes.Tables}
use Rattle.npf_model.specs.Verdict.{PlacedRule, all_rules, applies, decides, first_where, group_answer, last_where, matches, rules_of, verdict}

-- a place of a list whose first has the place `low`, and what stands behind it `high`
pub record IsWithin (low high s : ℕ) : Type 0 where
  pub least : low ≤ s
  pub most : s < high

pub or_within : (low high : ℕ) (one other : Option ℕ) (s : ℕ) → ((k : ℕ) → one ≡ Some k → IsWithin low high k) → ((k : ℕ) → other ≡ Some k → IsWithin low high k)
    → option_or one other ≡ Some s → IsWithin low high s
or_within low high (Some k) other s first second is = first s is
or_within low high None other s first second is = second s is

if_within : (b : Bool) (n m k : ℕ) → (if b then Some n else None) ≡ Some k → IsWithin n (n + suc m) k
if_within true n m k is = let e : n ≡ k = cc in record { least = omega arith; most = omega arith }
if_within false n m k is = absurd (cc)

pub wider : (low high least most s : ℕ) → least ≤ low → high ≤ most → IsWithin low high s → IsWithin least most s
wider low high least most s below above at = record { least = (let a = at.least in omega arith); most = (let a = at.most in omega arith) }

pub or_none : (one other : Option ℕ) → option_or one other ≡ None → (one ≡ None) × (other ≡ None)
or_none (Some k) other is = absurd (cc)
or_none None other is = (refl, is)

and_right : (a b : Bool) → (a && b) ≡ true → b ≡ true
and_right true b is = is
and_right false b is = absurd (cc)

module _ {X : Type 0} (t : X → Bool) where
  pub first_within : (n : ℕ) (xs : List X) (s : ℕ) → first_where t n xs ≡ Some s → IsWithin n (n + length xs) s
  first_within n [] s is = absurd (cc)
  first_within n (x ∷ xs) s is = elim (cases_Bool (t x)) [
    | inl passes ↦ if_within true n (length xs) s (rw passes at is)
    | inr fails ↦ wider (n + 1) (n + 1 + length xs) n (n + suc (length xs)) s (omega arith) (omega arith) (first_within (n + 1) xs s (rw fails at is))
  ]

  pub last_within : (n : ℕ) (xs : List X) (s : ℕ) → last_where t n xs ≡ Some s → IsWithin n (n + length xs) s
  last_within n [] s is = absurd (cc)
  last_within n (x ∷ xs) s is =
      or_within n (n + suc (length xs)) (last_where t (n + 1) xs) (if t x then Some n else None) s
      (λ k at. wider (n + 1) (n + 1 + length xs) n (n + suc (length xs)) k (omega arith) (omega arith) (last_within (n + 1) xs k at))
      (λ k at. if_within (t x) n (length xs) k at) is

  -- what stands there passes
  pub first_passes : (n : ℕ) (xs : List X) (k : ℕ) (x : X) → first_where t n xs ≡ Some (n + k) → slice_get xs k ≡ Some x → t x ≡ true
  first_passes n [] k x is at = absurd (cc)
  first_passes n (y ∷ ys) zero x is at = elim (cases_Bool (t y)) [
    | inl passes ↦ let same : y ≡ x = cc in subst (λ (z : X). t z ≡ true) same passes
    | inr fails ↦ let a = (first_within (n + 1) ys (n + zero) (rw fails at is)).least in absurd (omega arith)
  ]
  first_passes n (y ∷ ys) (suc k) x is at = elim (cases_Bool (t y)) [
    | inl passes ↦ let same : n ≡ n + suc k = (let h = rw passes at is in cc) in absurd (omega arith)
    | inr fails ↦ let place : n + suc k ≡ n + 1 + k = omega arith in
        first_passes (n + 1) ys k x (rw fails at is ∙ ap (λ p. Some p) place) at
  ]

  last_here : (n : ℕ) (ys : List X) (y : X) (rest : Option ℕ) → last_where t (n + 1) ys ≡ rest → option_or rest (if t y then Some n else None) ≡ Some (n + zero) → t y ≡ true
  last_here n ys y (Some s) there is = let e : s ≡ n + zero = cc in let a = (last_within (n + 1) ys s there).least in absurd (omega arith)
  last_here n ys y None there is = elim (cases_Bool (t y)) [
    | inl passes ↦ passes
    | inr fails ↦ let h = rw fails at is in absurd (cc)
  ]

  last_there : (n k : ℕ) (ys : List X) (y : X) (rest : Option ℕ) → last_where t (n + 1) ys ≡ rest → option_or rest (if t y then Some n else None) ≡ Some (n + suc k)
      → last_where t (n + 1) ys ≡ Some (n + suc k)
  last_there n k ys y (Some s) there is = there ∙ is
  last_there n k ys y None there is = let a = (if_within (t y) n zero (n + suc k) is).most in absurd (omega arith)

  pub last_passes : (n : ℕ) (xs : List X) (k : ℕ) (x : X) → last_where t n xs ≡ Some (n + k) → slice_get xs k ≡ Some x → t x ≡ true
  last_passes n [] k x is at = absurd (cc)
  last_passes n (y ∷ ys) zero x is at = let same : y ≡ x = cc in subst (λ (z : X). t z ≡ true) same (last_here n ys y (last_where t (n + 1) ys) refl is)
  last_passes n (y ∷ ys) (suc k) x is at =
      let place : n + suc k ≡ n + 1 + k = omega arith in
      last_passes (n + 1) ys k x (last_there n k ys y (last_where t (n + 1) ys) refl is ∙ ap (λ p. Some p) place) at

  -- where there is none, none passes
  pub none_passes : (n : ℕ) (xs : List X) (k : ℕ) (x : X) → last_where t n xs ≡ None → slice_get xs k ≡ Some x → t x ≡ false
  none_passes n [] k x is at = absurd (cc)
  none_passes n (y ∷ ys) zero x is at = elim (cases_Bool (t y)) [
    | inl passes ↦ let h = rw passes at ((or_none (last_where t (n + 1) ys) (if t y then Some n else None) is).1) in absurd (cc)
    | inr fails ↦ let same : y ≡ x = cc in subst (λ (z : X). t z ≡ false) same fails
  ]
  none_passes n (y ∷ ys) (suc k) x is at = none_passes (n + 1) ys k x ((or_none (last_where t (n + 1) ys) (if t y then Some n else None) is).0) at

  -- the first stands at the place of what passes, or in front of it
  pub record FirstBefore (n : ℕ) (xs : List X) (k : ℕ) : Type 0 where
    pub at : ℕ
    pub first : first_where t n xs ≡ Some at
    pub before : at ≤ n + k

  pub first_before : (n : ℕ) (xs : List X) (k : ℕ) (x : X) → slice_get xs k ≡ Some x → t x ≡ true → FirstBefore n xs k
  first_before n [] k x at passes = absurd (cc)
  first_before n (y ∷ ys) zero x at passes =
      let here : t y ≡ true = (let same : y ≡ x = cc in ap t same ∙ passes) in record { at = n; first = rw here refl; before = omega arith }
  first_before n (y ∷ ys) (suc k) x at passes = elim (cases_Bool (t y)) [
    | inl here ↦ record { at = n; first = rw here refl; before = omega arith }
    | inr fails ↦ let behind = first_before (n + 1) ys k x at passes in
        let b = behind.before in record { at = behind.at; first = rw fails behind.first; before = omega arith }
  ]

module _ (tables : Tables) (facts : Facts) (ifid : IfId) (dir : Dir) where
  pub answer_within : (n : ℕ) (rules : List PlacedRule) (s : ℕ) → group_answer tables facts ifid dir n rules ≡ Some s → IsWithin n (n + length rules) s
  answer_within n rules s is =
      or_within n (n + length rules) (first_where (decides tables facts ifid dir) n rules) (last_where (matches tables facts ifid dir) n rules) s
      (first_within (decides tables facts ifid dir) n rules) (last_within (matches tables facts ifid dir) n rules) is

  either_matches : (n : ℕ) (rules : List PlacedRule) (k : ℕ) (placed : PlacedRule) (first : Option ℕ) → first_where (decides tables facts ifid dir) n rules ≡ first
      → option_or first (last_where (matches tables facts ifid dir) n rules) ≡ Some (n + k) → slice_get rules k ≡ Some placed → matches tables facts ifid dir placed ≡ true
  either_matches n rules k placed (Some s) there is at =
      and_right placed.rule.last (matches tables facts ifid dir placed) (first_passes (decides tables facts ifid dir) n rules k placed (there ∙ is) at)
  either_matches n rules k placed None there is at = last_passes (matches tables facts ifid dir) n rules k placed is at

  -- a group's answer matches
  pub answer_matches : (n : ℕ) (rules : List PlacedRule) (k : ℕ) (placed : PlacedRule) → group_answer tables facts ifid dir n rules ≡ Some (n + k)
      → slice_get rules k ≡ Some placed → matches tables facts ifid dir placed ≡ true
  answer_matches n rules k placed is at = either_matches n rules k placed (first_where (decides tables facts ifid dir) n rules) refl is at

  -- without an answer nothing does
  pub unanswered : (n : ℕ) (rules : List PlacedRule) (k : ℕ) (placed : PlacedRule) → group_answer tables facts ifid dir n rules ≡ None
      → slice_get rules k ≡ Some placed → matches tables facts ifid dir placed ≡ false
  unanswered n rules k placed is at =
      none_passes (matches tables facts ifid dir) n rules k placed
      ((or_none (first_where (decides tables facts ifid dir) n rules) (last_where (matches tables facts ifid dir) n rules) is).1) at

  -- a group's answer where it applies
  abbrev pub answer_of : ℕ → Group → Option ℕ
  answer_of n group = if applies tables facts ifid dir group then group_answer tables facts ifid dir n (rules_of group) else None

  pub group_within : (n : ℕ) (group : Group) (s : ℕ) → answer_of n group ≡ Some s → IsWithin n (n + length (rules_of group)) s
  group_within n group s is = elim (cases_Bool (applies tables facts ifid dir group)) [
    | inl holds ↦ answer_within n (rules_of group) s (rw holds at is)
    | inr fails ↦ let h = rw fails at is in absurd (cc)
  ]

  pub verdict_within : (n : ℕ) (groups : List Group) (s : ℕ) → verdict tables facts ifid dir n groups ≡ Some s → IsWithin n (n + length (all_rules groups)) s
  verdict_within n [] s is = absurd (cc)
  verdict_within n (g ∷ gs) s is =
      let all = ap length (flat_map-cons rules_of g gs) ∙ length-append (rules_of g) (all_rules gs) in
      let next = n + length (rules_of g) in
      or_within n (n + length (all_rules (g ∷ gs))) (answer_of n g) (verdict tables facts ifid dir next gs) s
      (λ k at. wider n next n (n + length (all_rules (g ∷ gs))) k (omega arith) (omega arith) (group_within n g k at))
      (λ k at. wider next (next + length (all_rules gs)) n (n + length (all_rules (g ∷ gs))) k (omega arith) (omega arith) (verdict_within next gs k at)) is

  or_assoc : (a b c : Option ℕ) → option_or (option_or a b) c ≡ option_or a (option_or b c)
  or_assoc (Some k) b c = refl
  or_assoc None b c = refl

  -- groups in front answer, or those behind do
  pub verdict_append : (n : ℕ) (front behind : List Group)
      → verdict tables facts ifid dir n (front ++ behind)
      ≡ option_or (verdict tables facts ifid dir n front) (verdict tables facts ifid dir (n + length (all_rules front)) behind)
  verdict_append n [] behind = ap (λ k. verdict tables facts ifid dir k behind) (let e : n ≡ n + 0 = omega arith in e)
  verdict_append n (g ∷ gs) behind =
      let all = ap length (flat_map-cons rules_of g gs) ∙ length-append (rules_of g) (all_rules gs) in
      let place : n + length (rules_of g) + length (all_rules gs) ≡ n + length (all_rules (g ∷ gs)) = omega arith in
      ap (option_or (answer_of n g))
      (verdict_append (n + length (rules_of g)) gs behind
      ∙ ap (λ k. option_or (verdict tables facts ifid dir (n + length (rules_of g)) gs) (verdict tables facts ifid dir k behind)) place)
      ∙ sym (or_assoc (answer_of n g) (verdict tables facts ifid dir (n + length (rules_of g)) gs) (verdict tables facts ifid dir (n + length (all_rules (g ∷ gs))) behind))
