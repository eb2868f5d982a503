-- A configuration as data: the model, in which each ruleset has its rules and the number of its next one, and the entries of
-- each table as a list of blocks, in the order in which the model declares the tables.
use Rattle.std.specs.Prelude.{ℕ, Option}
use Rattle.npf_types.specs.declared.direction.Dir.{Dir}
use Rattle.npf_types.specs.declared.facts.Facts.{Facts}
use Rattle.npf_types.specs.declared.interface.IfId.{IfId}
use Rattle.npf_model.specs.declared.model.Model.{Model}
use Rattle.npf_model.specs.Describes.{Tables}
use Rattle.npf_model.specs.MapOf.{map_of}
use Rattle.npf_model.specs.Verdict.{verdict}

pub record Configuration : Type 0 where
  pub model : Model
  pub tables : Tables

-- the place of the rule that decides on a packet, and of the map that translates it
abbrev pub verdict_of : Configuration → Facts → IfId → Dir → Option ℕ
verdict_of config facts ifid dir = verdict config.tables facts ifid dir 0 config.model.groups

abbrev pub map_place_of : Configuration → Facts → IfId → Dir → Option ℕ
map_place_of config facts ifid dir = map_of config.tables facts ifid dir config.model.maps
