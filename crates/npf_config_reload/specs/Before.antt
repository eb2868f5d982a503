-- What the code keeps of the configuration before, and no part of what is taken over: its rulesets by their names, and where its tables
-- and procedures stand in the file.
use Rattle.std.specs.Prelude.{◌≡◌, Option, List}
use Rattle.std.specs.HashMap.{get_by}
use Rattle.std.specs.Option.{option_map}
use Rattle.std.specs.Str.{bytes_eq}
use Rattle.npf_types.specs.declared.name.Name.{Name}
use Rattle.npf_types.specs.Name.{name_bytes}
use Rattle.npf_config_changes.specs.Rulesets.{Ruleset}
use Rattle.npf_config_reload.specs.declared.again.FilePlaces.{FilePlaces}
use Rattle.npf_config_reload.specs.declared.rulesets.Dynamic.{Dynamic}
use Rattle.npf_config_reload.specs.declared.rulesets.Rulesets.{Rulesets}
use Rattle.npf_config_reload.specs.Taken.{Again, first_of}

abbrev pub again_of : FilePlaces → Again
again_of places = record { tables = places.tables.items; procedures = places.procedures.items }

abbrev pub ruleset_before : Dynamic → Ruleset
ruleset_before dynamic = record { next_id = dynamic.next_id; rules = dynamic.rules.now }

-- the ruleset that is found by a name
abbrev pub found_by : Rulesets → Name → Option Ruleset
found_by rulesets name = option_map ruleset_before (get_by (λ key. bytes_eq (name_bytes name) key.now) rulesets.first)

-- the first of these, of each name
abbrev pub FindsFirst : Rulesets → (Name → List Ruleset) → Type 0
FindsFirst rulesets named = (name : Name) → found_by rulesets name ≡ first_of (named name)
