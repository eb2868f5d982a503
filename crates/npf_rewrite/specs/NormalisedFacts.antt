-- What a normalised packet says: what it said before.
use Rattle.std.specs.Prelude.{ℕ, ◌^◌, ◌<◌, IfSome, List}
use Rattle.npf_types.specs.declared.action.Action.{Action}
use Rattle.npf_types.specs.declared.facts.Facts.{Facts}
use Rattle.npf_types.specs.declared.link.Link.{Link}
use Rattle.npf_packet.specs.declared.decoded.Decoded.TheVariants.{Ip}
use Rattle.npf_packet.specs.Decoder.{Decodes}
use Rattle.npf_rewrite.specs.Normalised.{Normalised}
use Rattle.npf_rewrite.specs.Verified.{HasBytes}

-- what an action names fits its field, as a program's does by its type
pub record ActionFits (action : Action) : Type 0 where
  pub ttl : IfSome action.min_ttl (λ least. least < 2 ^ 8)
  pub mss : IfSome action.max_mss (λ most. most < 2 ^ 16)

-- A packet that is normalised decodes to its facts: these don't tell a time to live, a bit "don't
-- fragment" or the number of a maximum segment size, and nothing else is changed but sums.
abbrev pub NormalisedDecodes : Type 0
NormalisedDecodes =
    (link : Link) (bytes normalised : List ℕ) (facts : Facts) (action : Action)
    → HasBytes bytes → ActionFits action → Decodes link bytes (Ip facts)
    → Normalised bytes facts action normalised → Decodes link normalised (Ip facts)
