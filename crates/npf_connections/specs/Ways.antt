-- The keys that a connection holds, by their ways.
use Rattle.std.specs.Prelude.{◌≢◌, ◌↔◌, Bool, ◌||◌, List, [], ◌∷◌, IsTrue}
use Rattle.npf_types.specs.declared.key.Way.{Way}
use Rattle.npf_types.specs.declared.key.Way.TheVariants.{Forward, Backward, Port}
use Rattle.npf_core.specs.declared.conn_id.ConnId.{ConnId}
use Rattle.npf_core.specs.declared.held.Held.{Held}
use Rattle.npf_core.specs.Machine.{Machine, HoldsNone, HoldsSome}
use Rattle.npf_core.specs.NextState.{is_way}

-- the ways, in the order in which a connection's keys are given up
abbrev pub all_ways : List Way
all_ways = Forward ∷ Backward ∷ Port ∷ []

-- these are the ways of which the connection holds a key
abbrev pub HoldsThese : {S : Type 0} → Machine S → ConnId → (Way → Bool) → Type 0
HoldsThese k id held = (way : Way) → HoldsSome k id way ↔ IsTrue (held way)

-- the ways of the keys after a hold: one more where it is Done
abbrev pub held_after : Held → Way → (Way → Bool) → Way → Bool
held_after Held.Done way held other = is_way other way || held other
held_after (Held.Taken found) way held other = held other
held_after Held.NoNode way held other = held other

-- a hold leaves the keys so, whatever they were
abbrev pub KeepsWays : {S : Type 0} → Machine S → Machine S → ConnId → Way → Held → Type 0
KeepsWays old new id way result = (held : Way → Bool) → HoldsThese old id held → HoldsThese new id (held_after result way held)

-- a hold leaves the ways without a key so, but for its own where it is Done
pub record KeepsBare {S : Type 0} (old new : Machine S) (id : ConnId) (way : Way) (result : Held) : Type 0 where
  pub others : (other : Way) → other ≢ way → HoldsNone old id other → HoldsNone new id other
  pub refused : result ≢ Held.Done → HoldsNone new id way
