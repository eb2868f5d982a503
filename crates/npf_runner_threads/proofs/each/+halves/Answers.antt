use Rattle.npf_runner_threads.proofs.HalfLemmas.{accepts_back, changes_both}
use Rattle.npf_runner_threads.proofs.each.+halves.Goals as goal

pub each_from-both_halves-requires-clause-back : goal.each_from-both_halves-requires-clause-back
each_from-both_halves-requires-clause-back g t c κs within =
    let cut = c.split_at_mut-front in
    accepts_back g.F.Fn c.args.f.now c.args.base c.args.part.now cut.result.0.now cut.result.1.now cut.ensures.value c.requires

pub each_from-returns : goal.each_from-returns
each_from-returns g t c =
    let cut = c.split_at_mut-front in
    changes_both g.F.Fn c.args.f.now c.args.base c.args.part.now cut.result.0.now cut.result.1.now cut.ensures.value
    c.both_halves.new.front c.both_halves.new.back c.both_halves.ensures.front c.both_halves.ensures.back
