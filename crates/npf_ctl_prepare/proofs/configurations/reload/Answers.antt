use Rattle.std.proofs.Common.{◌+◌, arith}
use Rattle.npf_config.proofs.LoadedLemmas.{more_ids}
use Rattle.npf_ctl_prepare.proofs.configurations.reload.Goals as goal

pub returns-clause-changeable : goal.returns-clause-changeable
returns-clause-changeable g c = λ most within. record {
  loaded = c.in_ok-config.ensures.loaded;
  ids = c.in_ok-config.ensures.ids (most + 1) (omega arith) (more_ids most (most + 1) (omega arith) c.args.last.now.model within);
}
