-- The tables of a configuration.
use Rattle.std.specs.Prelude.{List, [], ◌∷◌}
use Rattle.std.specs.Option.{option_map}
use Rattle.npf_types.specs.Named.{named}
use Rattle.npf_syntax.specs.declared.stmt.Stmt.{Stmt}
use Rattle.npf_syntax.specs.declared.stmt.TableType.{TableType}
use Rattle.npf_syntax.specs.declared.stmt.TableType.TheVariants as Written
use Rattle.npf_model.specs.declared.table.Kind.{Kind}
use Rattle.npf_model.specs.declared.table.Kind.TheVariants.{Ipset, Lpm, Const}
use Rattle.npf_model.specs.declared.table.TableDecl.{TableDecl}

abbrev pub kind_of_type : TableType → Kind
kind_of_type (Written.IpSet _) = Ipset
kind_of_type (Written.Lpm _) = Lpm
kind_of_type (Written.Const _) = Const

abbrev pub tables_of : Stmt → List TableDecl
tables_of (Stmt.Table name kind file span) =
    record {
      name = named name.text;
      kind = kind_of_type kind;
      file = option_map (λ string. string.text) file;
      file_span = option_map (λ string. string.span) file;
      span = span;
    }
    ∷ []
tables_of _ = []
