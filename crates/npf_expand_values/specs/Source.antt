-- The names by which rules go: those that a text's statements declare, or those of a model's tables and procedures.
use Rattle.std.specs.Prelude.{map}
use Rattle.npf_types.specs.Name.{name_bytes}
use Rattle.npf_model.specs.declared.model.Model.{Model}
use Rattle.npf_expand_values.specs.declared.source.Source.{Source}
use Rattle.npf_expand_values.specs.declared.source.Source.TheVariants.{InText, InModel}
use Rattle.npf_expand_values.specs.Declarations.{Declared, declared_in}

-- the names of a model's tables and procedures, in its order
abbrev pub declared_of : Model → Declared
declared_of model = record {
  tables = map (λ table. name_bytes table.name) model.tables;
  procedures = map (λ procedure. procedure.name) model.procedures;
}

abbrev pub declared_by : Source → Declared
declared_by (InText stmts) = declared_in stmts.now
declared_by (InModel model) = declared_of model.now
