-- The entries of a pass's calls.
use Rattle.std.specs.Prelude.{ℕ, Bool, List, [], ◌∷◌, map, filter, Option, Some, None}
use Rattle.npf_types.specs.declared.key.Key.{Key}
use Rattle.npf_types.specs.declared.key.Way.{Way}
use Rattle.npf_core.specs.declared.act.Act.{Act}
use Rattle.npf_core.specs.declared.act.Act.TheVariants.{Claim, Hold, Kill, Unhold, Free}
use Rattle.npf_core.specs.declared.act.Why.{Why}
use Rattle.npf_core.specs.declared.conn_id.ConnId.{ConnId}
use Rattle.npf_core.specs.declared.entry.Entry.{Entry}
use Rattle.npf_core.specs.declared.held.Held.{Held}
use Rattle.npf_core.specs.declared.reply.Reply.{Reply}
use Rattle.npf_core.specs.declared.reply.Reply.TheVariants.{Nothing, ToClaim, ToHold}
use Rattle.npf_connections.specs.Pass.{Pass}
use Rattle.npf_connections.specs.Ways.{all_ways}

-- an entry of a pass
abbrev pub entry_of : {S A R : Type 0} → Pass (Entry S A R) → Act S A → Reply R → Entry S A R
entry_of pass act reply = record { seat = pass.number; act = act; reply = reply }

-- a claim's, if there was a slot
abbrev pub claim_entries : {S A R : Type 0} → Pass (Entry S A R) → ℕ → Option ConnId → List (Entry S A R)
claim_entries pass n None = []
claim_entries pass n (Some id) = entry_of pass (Claim n id.slot) (ToClaim id) ∷ []

-- a hold's, if there was a node
abbrev pub hold_entries : {S A R : Type 0} → Pass (Entry S A R) → ConnId → Key → Way → Held → List (Entry S A R)
hold_entries pass id key way Held.NoNode = []
hold_entries pass id key way held = entry_of pass (Hold id key way) (ToHold held) ∷ []

-- the kill of a connection that holds keys of these ways, and then that they are given up
abbrev pub end_entries : {S A R : Type 0} → Pass (Entry S A R) → ConnId → Why → (Way → Bool) → List (Entry S A R)
end_entries pass id why held =
    entry_of pass (Kill id why) Nothing ∷ map (λ way. entry_of pass (Unhold id way) Nothing) (filter held all_ways)

-- those that free these identities
abbrev pub free_entries : {S A R : Type 0} → Pass (Entry S A R) → List ConnId → List (Entry S A R)
free_entries pass = map (λ id. entry_of pass (Free id) Nothing)
