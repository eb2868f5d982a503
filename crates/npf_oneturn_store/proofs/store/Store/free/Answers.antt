use Rattle.std.proofs.Common.{refl, arith}
use Rattle.npf_oneturn_store.specs.declared.phase.SlotPhase.TheVariants.{Vacant}
use Rattle.npf_oneturn_store.proofs.{ConnectionLemmas.{claimed_within, fit_freed, set_there, set_elsewhere, dead_claimed}, StandLemmas.stand_freed}
use Rattle.npf_oneturn_store.proofs.store.Store.free.Goals as goal

pub invariant_of-self-clause-fit : goal.invariant_of-self-clause-fit
invariant_of-self-clause-fit g c =
    let s = c.args.self.now in
    let xs = s.connections.items in
    let within = claimed_within xs c.args.id (dead_claimed xs c.args.id c.requires.killed) in
    fit_freed xs s.first c.min-self.result c.args.id.slot (record { inc = c.args.id.inc; phase = Vacant }) s.fit within
    (omega (arith, c.min-self.ensures)) (omega (arith, c.min-self.ensures)) c.requires.further

pub invariant_of-self-clause-stand : goal.invariant_of-self-clause-stand
invariant_of-self-clause-stand g c =
    let s = c.args.self.now in
    stand_freed s.connections.items s.keys.holdings.items s.stand c.args.id (record { inc = c.args.id.inc; phase = Vacant })
    (dead_claimed s.connections.items c.args.id c.requires.killed) c.requires.none

pub returns : goal.returns
returns g c =
    let xs = c.args.self.now.connections.items in
    let id = c.args.id in
    record {
      sized = refl;
      put = set_there xs id.slot _ (claimed_within xs id (dead_claimed xs id c.requires.killed));
      others = λ s ne. set_elsewhere xs id.slot s _ ne;
      held = λ key. refl;
    }
