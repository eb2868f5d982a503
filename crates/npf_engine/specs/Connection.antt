-- How a packet finds the live connection that it belongs to: it looks for the key with its interface, and, where none took it, for
-- the key of every interface. Connections that hold the key as a drawn port, and those that aren't live, don't take it.
use Rattle.std.specs.Prelude.{◌≡◌, ◌≢◌, ℕ, Option, Some, None, List, [], ◌∷◌, ◌++◌}
use Rattle.npf_types.specs.declared.key.Key.{Key}
use Rattle.npf_types.specs.declared.key.Way.TheVariants.{Port}
use Rattle.npf_core.specs.declared.act.Act.TheVariants.{Look}
use Rattle.npf_core.specs.declared.found.Found.{Found}
use Rattle.npf_core.specs.declared.reply.Reply.TheVariants.{ToLook}
use Rattle.npf_core.specs.declared.stepped.Stepped.TheVariants.{Done, NotLive}
use Rattle.npf_flow.specs.declared.step.FlowArg.{FlowArg}
use Rattle.npf_flow.specs.declared.step.FlowReply.{FlowReply}
use Rattle.npf_engine.specs.declared.connection.Met.{Met}
use Rattle.npf_engine_opening.specs.Saying.{FlowSaid, step_said}

-- the connection that took a packet, what its law answered, and which of its steps the packet is
abbrev pub met : Found → FlowReply → ℕ → Met
met found reply place = record { id = found.id; reply = reply; place = place }

module _ (n : ℕ) (arg : FlowArg) where
  -- the packet looked for the key
  abbrev pub look_for : Key → Option Found → FlowSaid
  look_for key found = record { act = Look n key; reply = ToLook found }

  -- What came of the look for one key. No connection holds it; it is a drawn port's; its holder isn't live; or its holder took the packet.
  pub data FindsByKey (key : Key) : List FlowSaid → Option Met → Type 0 where
    free : FindsByKey key (look_for key None ∷ []) None
    port : {found : Found} → found.way ≡ Port → FindsByKey key (look_for key (Some found) ∷ []) None
    dead : {found : Found} → found.way ≢ Port → FindsByKey key (look_for key (Some found) ∷ step_said n found arg NotLive ∷ []) None
    live : {found : Found} {reply : FlowReply} {place : ℕ} → found.way ≢ Port →
        FindsByKey key (look_for key (Some found) ∷ step_said n found arg (Done reply place) ∷ []) (Some (met found reply place))

  -- what came of the look for the one key, and, where no connection took the packet, for the other
  pub data FindsEither (own every : Key) : List FlowSaid → Option Met → Type 0 where
    by_own : {said : List FlowSaid} {taken : Met} → FindsByKey own said (Some taken) → FindsEither own every said (Some taken)
    by_every : {missed said : List FlowSaid} {result : Option Met} → FindsByKey own missed None → FindsByKey every said result →
        FindsEither own every (missed ++ said) result
