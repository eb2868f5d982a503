-- The rows of a table of one family: the first addresses of its blocks, their lengths, and beside each the length of the
-- outermost block that has its first address.
use Rattle.std.specs.Prelude.{◌≡◌, ◌≤◌, ◌<◌, ◌+◌, ◌*◌, ℕ, List, [], ◌∷◌, Contains, length, slice_index}
use Rattle.std.specs.List.{All, AllPairs}
use Rattle.std.specs.List.Sorted.{IsNonDecreasing}
use Rattle.npf_lpm.specs.declared.aligned.Aligned.{Aligned}
use Rattle.npf_lpm.specs.Agree.{AgreesIn, IsAligned}
use Rattle.npf_lpm.specs.Cut.{IsCut}

-- the rows as a list of blocks
abbrev pub aligned_blocks : List ℕ → List ℕ → List Aligned
aligned_blocks (first ∷ firsts) (len ∷ lengths) = record { first = first; len = len } ∷ aligned_blocks firsts lengths
aligned_blocks _ _ = []

-- blocks are in the order of their first addresses, and of their lengths where these are equal; a length is below 256
abbrev pub rank : Aligned → ℕ
rank block = block.first * 256 + block.len

-- the rows have aligned blocks in order, each once
pub record AreOrdered (firsts lengths : List ℕ) : Type 0 where
  pub pairs : length lengths ≡ length firsts
  pub aligned : All IsAligned (aligned_blocks firsts lengths)
  pub rises : AllPairs (λ p q. rank p < rank q) (aligned_blocks firsts lengths)
  pub climbs : IsNonDecreasing firsts
  pub short : All (λ len. len ≤ 128) lengths

-- the block isn't there, and would stand at the place
pub record IsGap (blocks : List Aligned) (block : Aligned) (place : ℕ) : Type 0 where
  pub absent : ¬ Contains blocks block
  pub between : IsCut rank (rank block) blocks place

-- the length at a place is that of the place before, if that block has the first address of this one, and else its own
pub record IsTop (firsts lengths tops : List ℕ) (place top : ℕ) : Type 0 where
  pub short : top ≤ 128
  pub starts : place ≡ 0 → top ≡ slice_index lengths 0
  pub stays : (k : ℕ) → place ≡ k + 1 → AgreesIn (slice_index tops k) (slice_index firsts k) (slice_index firsts place)
      → top ≡ slice_index tops k
  pub begins : (k : ℕ) → place ≡ k + 1 → ¬ AgreesIn (slice_index tops k) (slice_index firsts k) (slice_index firsts place)
      → top ≡ slice_index lengths place

-- so at the places below `end`
abbrev pub AreTops : List ℕ → List ℕ → List ℕ → ℕ → Type 0
AreTops firsts lengths tops end = (place : ℕ) → place < end → IsTop firsts lengths tops place (slice_index tops place)

-- the rows of a table
pub record AreRows (firsts lengths outermost : List ℕ) : Type 0 where
  pub ordered : AreOrdered firsts lengths
  pub beside : length outermost ≡ length firsts
  pub tops : AreTops firsts lengths outermost (length firsts)
