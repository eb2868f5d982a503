-- What a pass asked and was answered over some calls, in its order, without its number and its view.
use Rattle.std.specs.Prelude.{◌≡◌, ℕ, Bool, List, ◌∷◌, map, filter}
use Rattle.npf_types.specs.declared.key.Way.{Way}
use Rattle.npf_core.specs.declared.act.Act.{Act}
use Rattle.npf_core.specs.declared.act.Act.TheVariants.{Kill, Unhold}
use Rattle.npf_core.specs.declared.act.Why.{Why}
use Rattle.npf_core.specs.declared.conn_id.ConnId.{ConnId}
use Rattle.npf_core.specs.declared.entry.Entry.{Entry}
use Rattle.npf_core.specs.declared.reply.Reply.{Reply}
use Rattle.npf_core.specs.declared.reply.Reply.TheVariants.{Nothing}
use Rattle.npf_connections.specs.Adding.{Adds}
use Rattle.npf_connections.specs.Pass.{Pass}
use Rattle.npf_connections.specs.Stay.{IsLater}
use Rattle.npf_connections.specs.Ways.{all_ways}

-- an act and its reply
pub record Said (S A R : Type 0) : Type 0 where
  pub act : Act S A
  pub reply : Reply R

-- the entries of these under a number
abbrev pub under : {S A R : Type 0} → ℕ → List (Said S A R) → List (Entry S A R)
under number = map (λ said. record { seat = number; act = said.act; reply = said.reply })

-- the pass went on by these, and was joined with none
pub record Did {S A R : Type 0} (old new : Pass (Entry S A R)) (said : List (Said S A R)) : Type 0 where
  pub later : IsLater old new
  pub joined : new.joined ≡ old.joined
  pub adds : Adds old new.history (under old.number said)

-- the pass went on by what is described so
pub record Does {S A R : Type 0} (old new : Pass (Entry S A R)) (Described : List (Said S A R) → Type 0) : Type 0 where
  pub said : List (Said S A R)
  pub described : Described said
  pub did : Did old new said

-- the end of a connection that holds keys of these ways
abbrev pub ends_said : {S A R : Type 0} → ConnId → Why → (Way → Bool) → List (Said S A R)
ends_said id why held =
    record { act = Kill id why; reply = Nothing } ∷ map (λ way. record { act = Unhold id way; reply = Nothing }) (filter held all_ways)
