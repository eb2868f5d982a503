-- What a translated packet says: the facts of the change, which are those that the key of its answers
-- is made of.
use Rattle.std.specs.Prelude.{ℕ, ◌^◌, ◌<◌, Option, Some, None, ⊤, List}
use Rattle.npf_types.specs.declared.address.Addr.{Addr}
use Rattle.npf_types.specs.declared.address.Addr.TheVariants.{V4, V6}
use Rattle.npf_types.specs.declared.change.Change.{Change}
use Rattle.npf_types.specs.declared.change.End.{End}
use Rattle.npf_types.specs.declared.facts.Facts.{Facts}
use Rattle.npf_types.specs.declared.link.Link.{Link}
use Rattle.npf_key.specs.Translated.{facts_there}
use Rattle.npf_packet.specs.declared.decoded.Decoded.TheVariants.{Ip}
use Rattle.npf_packet.specs.Decoder.{Decodes}
use Rattle.npf_rewrite.specs.Translated.{Translated, new_ends}

-- an address fits its family, as a program's does by its type
abbrev pub AddressFits : Addr → Type 0
AddressFits (V4 a) = a < 2 ^ 32
AddressFits (V6 a) = a < 2 ^ 128

abbrev pub EndFits : Option End → Type 0
EndFits (Some end) = AddressFits end.addr
EndFits None = ⊤

-- the addresses that are named
pub record AddressesFit (facts : Facts) (change : Change) : Type 0 where
  pub src : EndFits (new_ends facts change).src
  pub dst : EndFits (new_ends facts change).dst

-- A packet that is translated decodes to its facts with the named addresses and ports: its protocol,
-- its places and all else are the same.
abbrev pub TranslatedDecodes : Type 0
TranslatedDecodes =
    (link : Link) (bytes translated : List ℕ) (facts : Facts) (change : Change)
    → Decodes link bytes (Ip facts) → AddressesFit facts change
    → Translated bytes facts change translated
    → Decodes link translated (Ip (facts_there change facts))
