-- What is sent of a packet that passes: it is normalised and then translated.
use Rattle.std.specs.Prelude.{ℕ, List}
use Rattle.npf_types.specs.declared.action.Action.{Action}
use Rattle.npf_types.specs.declared.change.Change.{Change}
use Rattle.npf_types.specs.declared.facts.Facts.{Facts}
use Rattle.npf_rewrite.specs.Normalised.{Normalised}
use Rattle.npf_rewrite.specs.Translated.{Translated}

pub record Sent (bytes : List ℕ) (facts : Facts) (action : Action) (change : Change) (sent : List ℕ) : Type 0 where
  pub normalised : List ℕ
  pub first : Normalised bytes facts action normalised
  pub second : Translated normalised facts change sent
