-- The entries of a configuration's tables, as lists of blocks.
use Rattle.std.specs.Prelude.{List, map}
use Rattle.std.specs.declared.sync.Arc.{Arc}
use Rattle.std.specs.Arc.{arc_value}
use Rattle.npf_table.specs.declared.table.Table.{Table}
use Rattle.npf_table.specs.Table.{prefixes}
use Rattle.npf_model.specs.Describes.{Tables}

abbrev pub entries : {Z : Type 0} → List (Arc Table Z) → Tables
entries tables = map (λ table. prefixes (arc_value table)) tables
