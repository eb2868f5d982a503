use Rattle.std.proofs.Common.{drop}
use Rattle.npf_ctl_prepare.proofs.MakeLemmas.{MadeSoFar}
use Rattle.npf_ctl_prepare.proofs.configurations.make_configurations.Given as goal

abbrev pub invariant-loop-line : goal.invariant-loop-line
invariant-loop-line g l = record {
  so_far : MadeSoFar l.fn.ifaces.list l.fn.script l.fn.lines l.fn.first (g.F.Files.moment l.initial.files) (g.F.Files.moment l.files)
      (drop l.line-index l.fn.lines) l.configs.items;
}
