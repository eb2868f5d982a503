-- Keys and their holders. Each connection has one place for each way, and what stands there is the key that it holds that way.
use Rattle.std.specs.Prelude.{◌≡◌, ◌≢◌, ℕ, ◌+◌, ◌*◌, ◌^◌, ◌<◌, Bool, false, List, [], ◌∷◌, length, get_or, Option, Some, None, if◌then◌else◌}
use Rattle.npf_types.specs.declared.key.Key.{Key}
use Rattle.npf_types.specs.declared.key.Way.{Way}
use Rattle.npf_types.specs.declared.key.Way.TheVariants.{Forward, Backward, Port}
use Rattle.npf_core.specs.declared.found.Found.{Found}
use Rattle.npf_core.specs.declared.hold.Holding.{Holding}
use Rattle.npf_core.specs.Machine.{is_key}
use Rattle.npf_oneturn_store.specs.Hash.{bucket_of}

-- what stands at a place
abbrev pub standing : List (Option Holding) → ℕ → Option Holding
standing holdings place = get_or holdings place None

-- the holder, if this is what stands there
abbrev pub found_in : Key → Option Holding → Option Found
found_in key None = None
found_in key (Some holding) = if is_key holding.key key then Some holding.found else None

-- the holder, if the place has the key
abbrev pub found_at : List (Option Holding) → Key → ℕ → Option Found
found_at holdings key place = found_in key (standing holdings place)

-- the first of two that is there
abbrev pub first_found : Option Found → Option Found → Option Found
first_found None other = other
first_found (Some found) other = Some found

-- the key's holder: the first place that has it tells
abbrev pub holder_among : List (Option Holding) → Key → Option Found
holder_among [] key = None
holder_among (x ∷ xs) key = first_found (found_in key x) (holder_among xs key)

-- the ways in order
abbrev pub way_number : Way → ℕ
way_number Forward = 0
way_number Backward = 1
way_number Port = 2

-- the place of a connection's key of a way
abbrev pub key_place : Found → ℕ
key_place found = 3 * found.id.slot + way_number found.way

-- the place has no key of this bucket
abbrev pub IsStale : ℕ → List (Option Holding) → ℕ → ℕ → Type 0
IsStale buckets holdings bucket place =
    (holding : Holding) → standing holdings place ≡ Some holding → bucket_of buckets holding.key ≢ bucket

-- no cell of the bucket names the place
abbrev pub IsUnnamed : List ℕ → ℕ → ℕ → Type 0
IsUnnamed cells bucket place = (i : ℕ) → i < 16 → get_or cells (bucket * 16 + i) 0 ≢ place

-- each bucket has 16 cells and a flag, and none before the first key is given
pub record AreSized (used : Bool) (buckets : ℕ) (cells : List ℕ) (spilled : List Bool) : Type 0 where
  pub some : 0 < buckets
  pub few : buckets < 2 ^ 32
  pub celled : length cells ≡ (if used then buckets * 16 else 0)
  pub flagged : length spilled ≡ (if used then buckets else 0)

-- what is held stands at its holder's place; a key stands at one place; and its bucket names that place, or is spilled
pub record AreKept (buckets : ℕ) (holdings : List (Option Holding)) (cells : List ℕ) (spilled : List Bool) : Type 0 where
  pub home : (place : ℕ) (holding : Holding) → standing holdings place ≡ Some holding → key_place holding.found ≡ place
  pub once : (place other : ℕ) (holding another : Holding) → standing holdings place ≡ Some holding →
      standing holdings other ≡ Some another → holding.key ≡ another.key → place ≡ other
  pub named : (place : ℕ) (holding : Holding) → standing holdings place ≡ Some holding →
      get_or spilled (bucket_of buckets holding.key) false ≡ false → ¬ IsUnnamed cells (bucket_of buckets holding.key) place
