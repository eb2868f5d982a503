-- The keys that are held, as a list.
use Rattle.std.specs.Prelude.{Bool, true, ◌&&◌, List, [], ◌∷◌, Option, option_map, find, is_none}
use Rattle.npf_types.specs.declared.key.Key.{Key}
use Rattle.npf_core.specs.declared.found.Found.{Found}
use Rattle.npf_core.specs.declared.hold.Holding.{Holding}
use Rattle.npf_core.specs.Machine.{is_key}

-- the holder of a key in a list of holdings
abbrev pub holder_in : List Holding → Key → Option Found
holder_in holdings key = option_map (λ (holding : Holding). holding.found) (find (λ holding. is_key holding.key key) holdings)

-- each key has one holding at most
abbrev pub is_each_once : List Holding → Bool
is_each_once [] = true
is_each_once (holding ∷ holdings) = is_none (holder_in holdings holding.key) && is_each_once holdings
