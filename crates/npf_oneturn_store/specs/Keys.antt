-- The keys that connections hold, as their holders tell.
use Rattle.std.specs.Prelude.{◌≡◌, ◌≢◌, ℕ, ◌+◌, Option, length, vec_capacity}
use Rattle.npf_types.specs.declared.key.Key.{Key}
use Rattle.npf_core.specs.declared.found.Found.{Found}
use Rattle.npf_oneturn_store.specs.declared.keys.Keys.{Keys}
use Rattle.npf_oneturn_store.specs.Places.{holder_among}

-- the key's holder
abbrev pub keeper_of : Keys → Key → Option Found
keeper_of keys key = holder_among keys.holdings.items key

-- the key has this holder or none, the others have what they had, and there are as many places, with as much room
pub record Reholds (old new : Keys) (key : Key) (found : Option Found) : Type 0 where
  pub now : keeper_of new key ≡ found
  pub others : (other : Key) → other ≢ key → keeper_of new other ≡ keeper_of old other
  pub sized : length new.holdings.items ≡ length old.holdings.items
  pub room : vec_capacity new.holdings ≡ vec_capacity old.holdings

-- there are so many places more, within the same room, and each key has the holder that it had
pub record Grows (more : ℕ) (old new : Keys) : Type 0 where
  pub held : (key : Key) → keeper_of new key ≡ keeper_of old key
  pub sized : length new.holdings.items ≡ length old.holdings.items + more
  pub room : vec_capacity new.holdings ≡ vec_capacity old.holdings
