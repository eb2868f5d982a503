-- Sets that are added to those of a dimension.
use Rattle.std.proofs.Common.{◌≡◌, ◌≤◌, ◌<◌, ℕ, zero, suc, ◌+◌, true, List, [], ◌∷◌, ◌++◌, Contains, length, map, get_or}
use Rattle.std.proofs.Common.{refl, sym, subst, inl, inr, ⊎_elim, arith}
use Rattle.std.specs.List.{All}
use Rattle.std.proofs.lemmas.Bool.{and_from, and_parts, cases_eq, le-leb, leb-true, or_cases, or_left, or_right}
use Rattle.std.proofs.lemmas.List.Elements.{All-contains, Contains-append_left, Contains-append_right, Contains-append_cases, Contains-get_or, Contains-push, Contains-push_cases}
use Rattle.npf_cut.specs.declared.range.Range.{Range}
use Rattle.npf_model.specs.Describes.{in_range}
use Rattle.npf_products.specs.declared.condition.Condition.{Condition}
use Rattle.npf_products.specs.Condition.{Ranges, has_number, tables_in}
use Rattle.npf_products.specs.Sets.{AreBelow, AreConditionSets, AreTableSets, SetsGrow, IsSet}

abbrev pub as_range : ℕ → ℕ × ℕ → Range
as_range set r = record { set = set; low = r.0; high = r.1 }

all_from : {X : Type 0} (P : X → Type 0) (xs : List X) → ((x : X) → Contains xs x → P x) → All P xs
all_from P xs each = λ k none low. each (get_or xs k none) (Contains-get_or xs k none low)

record LiesInSome (ranges : List Range) (number : ℕ) : Type 0 where
  range : Range
  among : Contains ranges range
  low : range.low ≤ number
  high : number ≤ range.high

mapped_set : (set : ℕ) (own : Ranges) (k : ℕ) (none : Range) → k < length (map (as_range set) own) → (get_or (map (as_range set) own) k none).set ≡ set
mapped_set set [] k none low = absurd (omega arith)
mapped_set set (r ∷ rs) zero none low = refl
mapped_set set (r ∷ rs) (suc k) none low = mapped_set set rs k none (omega arith)

mapped_from : (set number : ℕ) (own : Ranges) → has_number own number ≡ true → LiesInSome (map (as_range set) own) number
mapped_from set number [] has = absurd (cc)
mapped_from set number (r ∷ rs) has =
    ⊎_elim
    (λ (here : in_range number r ≡ true).
    let both = and_parts _ _ here in
    let first = as_range set r in
    record {
      range = first;
      among = Contains-append_left (first ∷ []) (map (as_range set) rs) first (Contains-push [] first);
      low = leb-true _ _ both.0;
      high = leb-true _ _ both.1;
    })
    (λ (later : has_number rs number ≡ true).
    let rest = mapped_from set number rs later in
    record { range = rest.range; among = Contains-append_right (as_range set r ∷ []) (map (as_range set) rs) rest.range rest.among; low = rest.low; high = rest.high })
    (or_cases (in_range number r) (has_number rs number) has)

mapped_has : (set number : ℕ) (own : Ranges) (range : Range) → Contains (map (as_range set) own) range → range.low ≤ number → number ≤ range.high
    → has_number own number ≡ true
mapped_has set number [] range among low high = absurd (let h = among.1 in omega arith)
mapped_has set number (r ∷ rs) range among low high =
    ⊎_elim
    (λ (here : Contains (as_range set r ∷ []) range).
    ⊎_elim
    (λ (none : Contains [] range). absurd (let h = none.1 in omega arith))
    (λ (same : as_range set r ≡ range).
    let least : r.0 ≤ number = subst (λ (x : Range). x.low ≤ number) (sym same) low in
    let most : number ≤ r.1 = subst (λ (x : Range). number ≤ x.high) (sym same) high in
    or_left (in_range number r) (has_number rs number) (and_from _ _ (le-leb r.0 number least) (le-leb number r.1 most)))
    (Contains-push_cases [] (as_range set r) range here))
    (λ (later : Contains (map (as_range set) rs) range). or_right (in_range number r) (has_number rs number) (mapped_has set number rs range later low high))
    (Contains-append_cases (as_range set r ∷ []) (map (as_range set) rs) range among)

pub record IsSetAdded (old : List Range) (count : ℕ) (own : Ranges) (new : List Range) : Type 0 where
  pub below : AreBelow new (count + 1)
  pub grows : SetsGrow old count new (count + 1)
  pub set : IsSet new (count + 1) count own

pub set_added : (old new : List Range) (count : ℕ) (own : Ranges) → AreBelow old count → new ≡ old ++ map (as_range count) own → IsSetAdded old count own new
set_added old new count own below is =
    let added = map (as_range count) own in
    let whole = old ++ added in
    let set_of : (range : Range) → Contains added range → range.set ≡ count =
    λ range among. All-contains (λ (r : Range). r.set ≡ count) added range (λ k none low. mapped_set count own k none low) among in
    let old_set : (range : Range) → Contains old range → range.set < count = λ range among. All-contains (λ (r : Range). r.set < count) old range below among in
    subst (IsSetAdded old count own) (sym is) (record {
      below = all_from (λ r. r.set < count + 1) whole (λ range among. ⊎_elim
          (λ (front : Contains old range). let low = old_set range front in let goal : range.set < count + 1 = omega arith in goal)
          (λ (behind : Contains added range). let same = set_of range behind in let goal : range.set < count + 1 = omega arith in goal)
          (Contains-append_cases old added range among));
      grows = record {
        count = omega arith;
        same = λ set number low. (
          λ h. ⊎_elim
              (λ (front : Contains old h.range). record { range = h.range; among = front; of = h.of; low = h.low; high = h.high })
              (λ (behind : Contains added h.range). absurd (let same = set_of h.range behind in let own' = h.of in omega arith))
              (Contains-append_cases old added h.range h.among),
          λ h. record { range = h.range; among = Contains-append_left old added h.range h.among; of = h.of; low = h.low; high = h.high },
        );
      };
      set = record {
        known = omega arith;
        same = λ number. (
          λ h. ⊎_elim
              (λ (front : Contains old h.range). absurd (let low = old_set h.range front in let own' = h.of in omega arith))
              (λ (behind : Contains added h.range). mapped_has count number own h.range behind h.low h.high)
              (Contains-append_cases old added h.range h.among),
          λ has.
              let some = mapped_from count number own has in
              record { range = some.range; among = Contains-append_right old added some.range some.among; of = set_of some.range some.among; low = some.low; high = some.high },
        );
      };
    })

pub set_kept : (old new : List Range) (old_count new_count set : ℕ) (own : Ranges) → SetsGrow old old_count new new_count → IsSet old old_count set own → IsSet new new_count set own
set_kept old new old_count new_count set own grows is = record {
  known = let a = is.known in let b = grows.count in omega arith;
  same = λ number. (
    λ h. (is.same number).0 ((grows.same set number is.known).0 h),
    λ h. (grows.same set number is.known).1 ((is.same number).1 h),
  );
}

pub grows_none : (ranges : List Range) (count : ℕ) → SetsGrow ranges count ranges count
grows_none ranges count = record { count = omega arith; same = λ set number low. (λ h. h, λ h. h) }

pub grows_then : (a b c : List Range) (n m k : ℕ) → SetsGrow a n b m → SetsGrow b m c k → SetsGrow a n c k
grows_then a b c n m k one two = record {
  count = let x = one.count in let y = two.count in omega arith;
  same = λ set number low.
      let further : set < m = let x = one.count in omega arith in (
        λ h. (one.same set number low).0 ((two.same set number further).0 h),
        λ h. (two.same set number further).1 ((one.same set number low).1 h),
      );
}

-- one more table
pub tables_more : (tables : List Ranges) (i : ℕ) (own : Ranges) (old new : List Range) (n m : ℕ) → i < length tables → own ≡ get_or tables i [] → n ≡ i
    → SetsGrow old n new m → IsSet new m n own → ((table : ℕ) → table < i → IsSet old n table (get_or tables table []))
    → (table : ℕ) → table < i + 1 → IsSet new m table (get_or tables table [])
tables_more tables i own old new n m low is count grows set each table below = elim (cases_eq table i) [
  | inl same ↦
      subst (λ k. IsSet new m k (get_or tables k [])) (sym same)
      (subst (λ (o : Ranges). IsSet new m i o) is (subst (λ k. IsSet new m k own) count set))
  | inr other ↦ set_kept old new n m table (get_or tables table []) grows (each table (omega arith))
]

-- the sets of conditions stay
pub conditions_kept : (dimension : ℕ) (conditions : List Condition) (numbers : List ℕ) (old new : List Range) (n m : ℕ) → SetsGrow old n new m
    → AreConditionSets dimension old n conditions numbers → AreConditionSets dimension new m conditions numbers
conditions_kept dimension conditions numbers old new n m grows are =
    λ at none low is. set_kept old new n m (get_or numbers at 0) (get_or conditions at none).ranges.items grows (are at none low is)

pub tables_kept : (dimension : ℕ) (tables : List Ranges) (old new : List Range) (n m : ℕ) → SetsGrow old n new m
    → AreTableSets dimension old n tables → AreTableSets dimension new m tables
tables_kept dimension tables old new n m grows are =
    λ table low. set_kept old new n m table (get_or (tables_in dimension tables) table []) grows (are table low)
