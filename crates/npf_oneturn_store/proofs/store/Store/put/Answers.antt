use Rattle.std.proofs.Common.{refl}
use Rattle.npf_oneturn_store.proofs.{ConnectionLemmas.{claimed_within, fit_put, set_there, set_elsewhere}, StandLemmas.stand_put}
use Rattle.npf_oneturn_store.proofs.store.Store.put.Goals as goal

pub invariant_of-self-clause-fit : goal.invariant_of-self-clause-fit
invariant_of-self-clause-fit g c =
    let s = c.args.self.now in
    let xs = s.connections.items in
    fit_put xs s.first c.args.id.slot (record { inc = c.args.id.inc; phase = c.args.phase }) s.fit (claimed_within xs c.args.id c.requires.claimed) c.requires.stays

pub invariant_of-self-clause-stand : goal.invariant_of-self-clause-stand
invariant_of-self-clause-stand g c =
    let s = c.args.self.now in
    stand_put s.connections.items s.keys.holdings.items s.stand c.args.id (record { inc = c.args.id.inc; phase = c.args.phase }) c.requires.claimed refl c.requires.stays

pub returns : goal.returns
returns g c =
    let xs = c.args.self.now.connections.items in
    let id = c.args.id in
    record {
      sized = refl;
      put = set_there xs id.slot _ (claimed_within xs id c.requires.claimed);
      others = λ s ne. set_elsewhere xs id.slot s _ ne;
      held = λ key. refl;
    }
