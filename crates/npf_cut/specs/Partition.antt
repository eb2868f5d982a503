-- Intervals in classes, by the class of each.
use Rattle.std.specs.Prelude.{◌≡◌, ◌≤◌, ◌<◌, ℕ, List, length, slice_index}
use Rattle.std.specs.List.{All}
use Rattle.npf_cut.specs.declared.span.SetSpan.{SetSpan}
use Rattle.npf_cut.specs.Span.{IsSpanned, IsIntervalOf}

-- there is an entry for each class, and each names a class
pub record AreKnown (classes parts : List ℕ) : Type 0 where
  pub intervals : All (λ class. class < length parts) classes
  pub entries : All (λ class. class < length parts) parts

-- what a set that splits classes has come to: a class below `fresh` is an older one, whose entry is its part if that is fresh; the entry of
-- a fresh class is the older one that it is a part of
pub record AreParts (old classes parts : List ℕ) (fresh : ℕ) : Type 0 where
  pub same_len : length classes ≡ length old
  pub room : fresh ≤ length parts
  pub entries : All (λ class. class < length parts) parts
  pub left : (k : ℕ) → k < length old → slice_index classes k < fresh → slice_index classes k ≡ slice_index old k
  pub moved : (k : ℕ) → k < length old → fresh ≤ slice_index classes k
      → (slice_index classes k < length parts) × (slice_index parts (slice_index classes k) ≡ slice_index old k)
  pub named : (class : ℕ) → class < fresh → fresh ≤ slice_index parts class → slice_index parts (slice_index parts class) ≡ class

-- intervals of one class were of one class before, and the spans have both or neither
pub record IsRefinedBy (spans : List SetSpan) (old new : List ℕ) : Type 0 where
  pub same_len : length new ≡ length old
  pub finer : (j k : ℕ) → j < length old → k < length old → slice_index new j ≡ slice_index new k → slice_index old j ≡ slice_index old k
  pub told : (j k : ℕ) → j < length old → k < length old → slice_index new j ≡ slice_index new k → IsSpanned spans j → IsSpanned spans k

-- no set has one interval of a class without another
abbrev pub RespectsSets : List SetSpan → List ℕ → Type 0
RespectsSets spans classes = (set j k : ℕ) → j < length classes → k < length classes → slice_index classes j ≡ slice_index classes k
    → IsIntervalOf spans set j → IsIntervalOf spans set k

-- the classes have the numbers below those of the firsts, each of which is the first interval of its class
pub record AreFirsts (classes firsts : List ℕ) : Type 0 where
  pub below : All (λ class. class < length firsts) classes
  pub first : (class : ℕ) → class < length firsts
      → (slice_index firsts class < length classes) × (slice_index classes (slice_index firsts class) ≡ class)
  pub least : (k : ℕ) → k < length classes → slice_index firsts (slice_index classes k) ≤ k

-- intervals of one class were of one class before
pub record IsNumbering (old new firsts : List ℕ) : Type 0 where
  pub same_len : length new ≡ length old
  pub finer : (j k : ℕ) → j < length old → k < length old → slice_index new j ≡ slice_index new k → slice_index old j ≡ slice_index old k
  pub numbered : AreFirsts new firsts
