-- Which connections a saved file lists, and in which order.
use Rattle.std.specs.Prelude.{◌≡◌, ◌≢◌, ◌↔◌, ◌<◌, ◌^◌, ℕ, Bool, true, false, Option, Some, None, IfSome, List, [], ◌∷◌, ◌++◌, Contains, slice_index}
use Rattle.std.specs.Cmp.Lexicographic.{slice_cmp}
use Rattle.std.specs.List.{All, AllPairs, flat_map}
use Rattle.std.specs.Ordering.{nat_cmp}
use Rattle.std.specs.declared.cmp.Ordering.TheVariants.{Less}
use Rattle.npf_types.specs.declared.address.Addr.{Addr}
use Rattle.npf_types.specs.declared.change.End.{End}
use Rattle.npf_types.specs.declared.key.Key.{Key}
use Rattle.npf_key.specs.Key.{port_key}
use Rattle.npf_saved.specs.declared.saved.Saved.{Saved}
use Rattle.npf_saved.specs.Fields.{FitsSaved}

-- the key, if there is one
abbrev pub key_list : Option Key → List Key
key_list None = []
key_list (Some key) = key ∷ []

-- the keys that a connection holds
abbrev pub saved_keys : Saved → List Key
saved_keys saved = saved.forward ∷ (key_list saved.port ++ key_list saved.backward)

-- the first of its sixteen-digit numbers begins with 0, as that of a packet's key does and that of a port's doesn't
abbrev pub IsPacketKey : Key → Type 0
IsPacketKey key = slice_index key.0 0 < 2 ^ 60

abbrev pub key_at : Addr → Option ℕ → Option Key
key_at addr None = None
key_at addr (Some port) = Some (port_key addr port)

-- the key of the port that a translation gives the source, where it gives one
abbrev pub source_port_key : Option End → Option Key
source_port_key None = None
source_port_key (Some source) = key_at source.addr source.port

-- the keys of the connection's ways are of the kinds that these ways have
pub record HasKeysOfItsWays (saved : Saved) : Type 0 where
  pub forward : IsPacketKey saved.forward
  pub backward : IfSome saved.backward IsPacketKey
  pub port : saved.port ≡ source_port_key saved.flow.there.src

-- by its numbers, the first first
abbrev pub ComesBefore : Saved → Saved → Type 0
ComesBefore one other = slice_cmp nat_cmp one.forward.0 other.forward.0 ≡ Less

abbrev pub AreRising : List Saved → Type 0
AreRising conns = AllPairs ComesBefore conns

abbrev pub AreDistinct : List Key → Type 0
AreDistinct keys = AllPairs (λ one other. one ≢ other) keys

-- a saved file may list these: each has keys of its ways' kinds, they rise by their forward keys, and no key is held twice
pub record AreSavedConns (conns : List Saved) : Type 0 where
  pub fit : All FitsSaved conns
  pub placed : All HasKeysOfItsWays conns
  pub rising : AreRising conns
  pub distinct : AreDistinct (flat_map saved_keys conns)

-- a set has these keys and no others
abbrev pub HasKeys : List Key → List Key → Type 0
HasKeys set keys = (key : Key) → Contains set key ↔ Contains keys key

-- these keys were taken into a set that has the others: false where one of them was there, or stands among them twice
abbrev pub TakesKeys : List Key → List Key → List Key → Bool → Type 0
TakesKeys known keys set true = AreDistinct (known ++ keys) × HasKeys set (known ++ keys)
TakesKeys known keys set false = ¬ AreDistinct (known ++ keys)

-- the connection was put behind these, whose keys the set has: false where it may not stand there
abbrev pub AddsConn : List Saved → Saved → List Saved → List Key → Bool → Type 0
AddsConn before saved after set true = (after ≡ before ++ saved ∷ []) × AreSavedConns after × HasKeys set (flat_map saved_keys after)
AddsConn before saved after set false = ¬ AreSavedConns (before ++ saved ∷ [])
