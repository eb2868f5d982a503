-- What a flat configuration shows: its meaning as data, and the programs of its rules.
use Rattle.std.specs.Prelude.{List}
use Rattle.npf_model.specs.Configuration.{Configuration}
use Rattle.npf_bpf.specs.declared.insn.Insn.{Insn}
use Rattle.npf_ruleset.specs.declared.config.Config.{Config}
use Rattle.npf_ruleset.specs.Flat.{programs_of}
use Rattle.npf_ruleset.specs.Tables.{entries}

abbrev pub configuration : Config → Configuration
configuration config = record { model = config.model; tables = entries config.tables.items }

-- the program of each rule, in the order of inspection
abbrev pub programs : Config → List (List Insn)
programs config = programs_of config.rules
