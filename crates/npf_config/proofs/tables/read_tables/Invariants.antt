use Rattle.std.proofs.Common.{take}
use Rattle.npf_config.proofs.TableLemmas.{ReadSoFar}
use Rattle.npf_config.proofs.tables.read_tables.Given as goal

abbrev pub invariant-loop-decl : goal.invariant-loop-decl
invariant-loop-decl g l = record {
  so_far : ReadSoFar (g.F.Files.moment l.initial.files) (g.F.Files.moment l.files) (take l.decl-index l.fn.decls) l.tables.items l.count;
}
