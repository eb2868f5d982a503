-- The places of the trie and what locks them.
use Rattle.npf_paths.specs.declared.place.Lock.{Lock}
use Rattle.npf_paths.specs.declared.place.Lock.TheVariants as Locks
use Rattle.npf_paths.specs.declared.place.Place.{Place}
use Rattle.npf_paths.specs.declared.place.Place.TheVariants.{Root, Node}

-- a place of the root has a lock of its own, and a node has one for all its places
abbrev pub lock_of : Place → Lock
lock_of (Root digit) = Locks.Root digit
lock_of (Node node _) = Locks.Node node
