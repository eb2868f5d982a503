use Rattle.npf_oneturn_store.proofs.StandLemmas.{nothing_there}
use Rattle.npf_oneturn_store.proofs.store.Store.hold.Goals as goal

pub give-requires-clause-none : goal.give-requires-clause-none
give-requires-clause-none g c =
    let s = c.args.self.now in
    nothing_there s.connections.items s.keys.holdings.items s.stand s.keys.buckets s.keys.cells.items s.keys.spilled.items s.keys.kept c.args.id c.args.way c.requires.claimed c.requires.none
