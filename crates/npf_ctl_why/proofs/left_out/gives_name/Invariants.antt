use Rattle.std.proofs.Common.{◌≡◌, drop}
use Rattle.npf_ctl_why.specs.LeftOut.{gives_name}
use Rattle.npf_ctl_why.proofs.left_out.gives_name.Given as goal

abbrev pub invariant-loop-place : goal.invariant-loop-place
invariant-loop-place l = record {
  left : gives_name l.fn.fault l.fn.name l.fn.gone ≡ gives_name l.fn.fault l.fn.name (drop l.place l.fn.gone);
}
