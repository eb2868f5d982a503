use Rattle.std.proofs.Common.{◌+◌, ◌<◌, ◌∙◌, length, sym, ap, arith}
use Rattle.npf_oneturn_store.specs.declared.{connection.Connection.Connection, phase.SlotPhase.TheVariants.Building}
use Rattle.npf_oneturn_store.proofs.ConnectionLemmas.{fit_claimed, lowest_within, set_there, set_elsewhere, slot_read}
use Rattle.npf_oneturn_store.proofs.StandLemmas.{stand_claimed, unclaimed_bare}
use Rattle.npf_oneturn_store.proofs.store.Store.claim.Goals as goal

pub reach-requires-clause-next : goal.reach-requires-clause-next
reach-requires-clause-next g c =
    let s = c.args.self.now in
    omega (arith, lowest_within s.connections.items c.in-Some.slot c.in-Some.ensures.some.lowest, s.connections.ok.0)

pub invariant_of-self-clause-fit : goal.invariant_of-self-clause-fit
invariant_of-self-clause-fit g c =
    let s = c.reach.new.self in
    let x : Connection g.row.S.Denot = record { inc = c.index.result.now.inc + 1; phase = Building } in
    fit_claimed s.connections.items s.first c.in-Some.slot x s.fit (omega (arith, c.reach.ensures.written, s.connections.ok.0)) (λ e. cc)
    (λ r below vacant. c.in-Some.ensures.some.lowest r below (ap (λ (y : Connection g.row.S.Denot). y.phase) (sym (c.reach.ensures.same.placed r)) ∙ vacant))

pub invariant_of-self-clause-stand : goal.invariant_of-self-clause-stand
invariant_of-self-clause-stand g c =
    let s = c.reach.new.self in
    let x : Connection g.row.S.Denot = record { inc = c.index.result.now.inc + 1; phase = Building } in
    stand_claimed s.connections.items s.keys.holdings.items s.stand c.in-Some.slot x
    (ap (λ (y : Connection g.row.S.Denot). y.phase) (c.reach.ensures.same.placed c.in-Some.slot) ∙ c.in-Some.ensures.some.unclaimed)

pub returns : goal.returns
returns g c =
    let s = c.reach.new.self in
    let xs = s.connections.items in
    let slot = c.in-Some.slot in
    let lowest = c.in-Some.ensures.some in
    let same = c.reach.ensures.same in
    let within : slot < length xs = omega (arith, c.reach.ensures.written, s.connections.ok.0) in
    record {
      exists = lowest.exists;
      unclaimed = lowest.unclaimed;
      lowest = lowest.lowest;
      next = ap (λ (x : Connection g.row.S.Denot). x.inc + 1) (sym (slot_read xs slot c.index.result.now within c.index.ensures) ∙ same.placed slot);
      built = record {
        sized = same.sized;
        put = set_there xs slot _ within;
        others = λ r ne. set_elsewhere xs slot r _ ne ∙ same.placed r;
        held = same.held;
      };
      bare = λ way key held. unclaimed_bare xs s.keys.holdings.items s.stand (record { slot = slot; inc = c.index.result.now.inc + 1 })
          (ap (λ (y : Connection g.row.S.Denot). y.phase) (same.placed slot) ∙ lowest.unclaimed) way key held;
    }
