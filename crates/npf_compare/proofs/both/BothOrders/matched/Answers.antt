use Rattle.npf_compare.proofs.BothLemmas.{matched_are}
use Rattle.npf_compare.proofs.both.BothOrders.matched.Goals as goal

pub returns-clause-matched : goal.returns-clause-matched
returns-clause-matched c =
    matched_are c.args.self.now.old c.args.self.now.new c.args.self.now.packets c.requires.of c.args.at c.in_ok-packets.packets c.alone_at-alone.result
    c.alone_at-alone.ensures.first c.alone_at-alone.ensures.place c.alone_at-alone.ensures.one c.alone_at-alone.ensures.none
    c.in_ok-packets.ensures.of c.in_ok-packets.ensures.narrowed
