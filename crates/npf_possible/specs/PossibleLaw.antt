-- What is possible is what packets have, and of it rules and maps see what they test.
use Rattle.std.specs.Prelude.{◌≡◌, ℕ, ◌<◌, ◌≤◌, ◌^◌, List, length, slice_index}
use Rattle.npf_types.specs.declared.direction.Dir.{Dir}
use Rattle.npf_types.specs.declared.facts.Facts.{Facts}
use Rattle.npf_types.specs.declared.interface.IfId.{IfId}
use Rattle.npf_types.specs.declared.link.Link.{Link}
use Rattle.npf_types.specs.declared.link.Link.TheVariants.{Raw}
use Rattle.npf_packet.specs.declared.decoded.Decoded.TheVariants.{Ip}
use Rattle.npf_packet.specs.Decoder.{Decodes}
use Rattle.npf_model.specs.declared.map.Map.{Map}
use Rattle.npf_model.specs.declared.rule.Rule.{Rule}
use Rattle.npf_model.specs.Configuration.{Configuration, map_place_of, verdict_of}
use Rattle.npf_model.specs.Describes.{Tables, describes}
use Rattle.npf_model.specs.MapOf.{map_applies}
use Rattle.npf_possible.specs.Possible.{IsPossible}
use Rattle.npf_possible.specs.Tested.{SameTested}
use Rattle.npf_possible.specs.Witness.{witness_bytes}

-- these are bytes, as a program's are by their types
abbrev pub HasBytes : List ℕ → Type 0
HasBytes bytes = (at : ℕ) → slice_index bytes at < 2 ^ 8

abbrev pub DecodedIsPossible : Type 0
DecodedIsPossible = (link : Link) (bytes : List ℕ) (facts : Facts) → HasBytes bytes → Decodes link bytes (Ip facts) → IsPossible facts

-- few bytes, without a link's header, that say this of what is tested
pub record IsWitness (facts : Facts) (bytes : List ℕ) : Type 0 where
  pub are : HasBytes bytes
  pub size : length bytes ≤ 60
  pub decoded : Facts
  pub decodes : Decodes Raw bytes (Ip decoded)
  pub same : SameTested facts decoded

abbrev pub PossibleHasWitness : Type 0
PossibleHasWitness = (facts : Facts) → IsPossible facts → IsWitness facts (witness_bytes facts)

abbrev pub RulesTestAlike : Type 0
RulesTestAlike =
    (rule : Rule) (tables : Tables) (one other : Facts) (ifid : IfId) (dir : Dir) → SameTested one other
    → describes rule tables one ifid dir ≡ describes rule tables other ifid dir

abbrev pub MapsTestAlike : Type 0
MapsTestAlike =
    (map : Map) (tables : Tables) (one other : Facts) (ifid : IfId) (dir : Dir) → SameTested one other
    → map_applies tables one ifid dir map ≡ map_applies tables other ifid dir map

-- so one rule decides on both, and one map translates both
abbrev pub VerdictsAlike : Type 0
VerdictsAlike =
    (config : Configuration) (one other : Facts) (ifid : IfId) (dir : Dir) → SameTested one other
    → verdict_of config one ifid dir ≡ verdict_of config other ifid dir

abbrev pub MapPlacesAlike : Type 0
MapPlacesAlike =
    (config : Configuration) (one other : Facts) (ifid : IfId) (dir : Dir) → SameTested one other
    → map_place_of config one ifid dir ≡ map_place_of config other ifid dir
