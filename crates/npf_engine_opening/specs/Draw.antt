-- How a port is drawn for a connection that holds its forward key.
use Rattle.std.specs.Prelude.{◌≡◌, ℕ, Result, Ok, Err, List, [], ◌∷◌, ◌++◌, map}
use Rattle.npf_types.specs.declared.address.Addr.{Addr}
use Rattle.npf_types.specs.declared.key.Way.{Way}
use Rattle.npf_types.specs.declared.key.Way.TheVariants.{Forward, Port}
use Rattle.npf_core.specs.declared.conn_id.ConnId.{ConnId}
use Rattle.npf_core.specs.declared.found.Found.{Found}
use Rattle.npf_core.specs.declared.held.Held.{Held}
use Rattle.npf_key.specs.Key.{port_key}
use Rattle.npf_engine_opening.specs.declared.attempt.Refusal.{Refusal}
use Rattle.npf_engine_opening.specs.declared.attempt.Refusal.TheVariants as Refusals
use Rattle.npf_engine_opening.specs.Saying.{FlowSaid, hold_said}

-- a port that isn't given, since its key has this holder
pub record TakenPort : Type 0 where
  pub port : ℕ
  pub holder : Found

abbrev pub taken_ports : List TakenPort → List ℕ
taken_ports = map (λ (taken : TakenPort). taken.port)

-- the key of each is asked for and has its holder, one after the other
abbrev pub taken_said : ConnId → Addr → List TakenPort → List FlowSaid
taken_said id addr = map (λ (taken : TakenPort). hold_said id (port_key addr taken.port) Port (Held.Taken taken.holder))

-- the port that is drawn is the first of the ports whose key at the address has no holder: each before it is Taken. None is drawn
-- where all are Taken, or where there is no node for the next
pub data Draws (id : ConnId) (addr : Addr) (ports : List ℕ) : List FlowSaid → Result ℕ Refusal → Type 0 where
  given : (before : List TakenPort) (port : ℕ) (behind : List ℕ) → ports ≡ taken_ports before ++ port ∷ behind →
      Draws id addr ports (taken_said id addr before ++ hold_said id (port_key addr port) Port Held.Done ∷ []) (Ok port)
  all_taken : (all : List TakenPort) → ports ≡ taken_ports all → Draws id addr ports (taken_said id addr all) (Err Refusals.NoPort)
  no_node : (before : List TakenPort) (port : ℕ) (behind : List ℕ) → ports ≡ taken_ports before ++ port ∷ behind →
      Draws id addr ports (taken_said id addr before) (Err Refusals.NoNode)

-- the ways of the keys that the connection holds then
abbrev pub drawn_ways : Result ℕ Refusal → List Way
drawn_ways (Ok port) = Port ∷ Forward ∷ []
drawn_ways (Err why) = Forward ∷ []
