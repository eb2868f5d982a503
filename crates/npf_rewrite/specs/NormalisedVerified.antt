-- The sums of a normalised packet still verify where they did: nothing but a sum tells of a change.
use Rattle.std.specs.Prelude.{◌≡◌, ℕ, List, length}
use Rattle.npf_types.specs.declared.action.Action.{Action}
use Rattle.npf_types.specs.declared.address.Addr.TheVariants.{V4}
use Rattle.npf_types.specs.declared.facts.Facts.{Facts}
use Rattle.npf_rewrite.specs.Normalised.{Normalised}
use Rattle.npf_rewrite.specs.NormalisedFacts.{ActionFits}
use Rattle.npf_rewrite.specs.Room.{HasRoom}
use Rattle.npf_rewrite.specs.Verified.{HasBytes, HeaderVerifies, UpperVerifies}

-- the sum of a header of IPv4
abbrev pub NormalisedHeaderFollows : Type 0
NormalisedHeaderFollows =
    (bytes normalised : List ℕ) (facts : Facts) (action : Action) (a : ℕ)
    → HasBytes bytes → ActionFits action → facts.src ≡ V4 a → HasRoom (length bytes) facts
    → Normalised bytes facts action normalised
    → HeaderVerifies bytes facts → HeaderVerifies normalised facts

-- the sum of what is carried, that of a segment whose maximum segment size is lowered among them
abbrev pub NormalisedUpperFollows : Type 0
NormalisedUpperFollows =
    (bytes normalised : List ℕ) (facts : Facts) (action : Action)
    → HasBytes bytes → ActionFits action → HasRoom (length bytes) facts
    → Normalised bytes facts action normalised
    → UpperVerifies bytes facts → UpperVerifies normalised facts
