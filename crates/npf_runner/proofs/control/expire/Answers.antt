use Rattle.npf_runner.proofs.RestLemmas.{rested_expired}
use Rattle.npf_runner.proofs.control.expire.Goals as goal

pub returns-clause-expires : goal.returns-clause-expires
returns-clause-expires g c =
    let V = g.C.Connections.view in
    record {
      count = c.expire.result;
      due = V c.expire.new.pass;
      expires = c.expire.ensures.adds;
      rested = rested_expired (V c.args.pass.now) (V c.expire.new.pass) c.args.now c.expire.result c.expire.ensures.adds c.expire.ensures.out.legal c.expire.ensures.view;
      once = V c.collect.new.pass;
      twice = V c.collect-2.new.pass;
      collects = record { frees = c.collect.ensures.adds; clean = c.collect.ensures.clean; view = c.collect.ensures.view };
      collects_again = record { frees = c.collect-2.ensures.adds; clean = c.collect-2.ensures.clean; view = c.collect-2.ensures.view };
      collects_last = record { frees = c.collect-3.ensures.adds; clean = c.collect-3.ensures.clean; view = c.collect-3.ensures.view };
    }
