use Rattle.std.proofs.{Common.{◌<◌, arith}, Math.Nat.{div-mul-le_self, lt-div-mul-add}}
use Rattle.npf_ctl_aging.specs.Aging.{period}
use Rattle.npf_ctl_aging.proofs.laws.last_tick_is_last.Goals as goal

pub returns : goal.returns
returns c = λ seconds time some.
    let passes : 0 < period seconds = omega arith in (div-mul-le_self time (period seconds), lt-div-mul-add {a = time} passes)
