use Rattle.npf_oneturn_store.proofs.{ConnectionLemmas.{written_same, fit_same}, StandLemmas.stand_same}
use Rattle.npf_oneturn_store.proofs.store.Store.reach.Goals as goal

pub invariant_of-self-clause-fit : goal.invariant_of-self-clause-fit
invariant_of-self-clause-fit g c =
    let s = c.args.self.now in
    fit_same s.connections.items s.first _ s.fit (λ r. rw c.push_reserved.ensures.items (written_same s.connections.items r))

pub invariant_of-self-clause-stand : goal.invariant_of-self-clause-stand
invariant_of-self-clause-stand g c =
    let s = c.args.self.now in
    stand_same s.connections.items s.keys.holdings.items s.stand _ c.add_slot.new.self.holdings.items
    (λ r. rw c.push_reserved.ensures.items (written_same s.connections.items r)) c.add_slot.ensures.held
