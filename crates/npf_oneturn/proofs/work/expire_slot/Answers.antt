use Rattle.std.proofs.Common.{subst}
use Rattle.npf_types.specs.declared.key.Way.{Way}
use Rattle.npf_core.specs.declared.act.Why.TheVariants.{Expired}
use Rattle.npf_oneturn_store.{specs.{Store.{IsDuePhase, slot_of}, Connection.phase_at}, proofs.RepresentLemmas.{shows_due, shows_bare}}
use Rattle.npf_oneturn.proofs.ExpiryLemmas.{expires_at, expires_none, idle_phase}
use Rattle.npf_oneturn.proofs.work.expire_slot.Goals as goal

pub returns-in_default-clause-expires : goal.returns-in_default-clause-expires
returns-in_default-clause-expires g c = λ slots k seat r.
    let m = g.L.Law.meaning in
    let store = c.args.store.now in
    expires_none m slots k seat c.args.now c.args.slot store r
    (λ id there h.
    let phase = (shows_due m slots store k id c.args.now r).0 h in
    idle_phase m slots k seat c.args.now (slot_of store c.args.slot) id.inc c.in_default.ensures (subst (λ s. IsDuePhase m c.args.now (phase_at (slot_of store s) id.inc)) there phase))

pub returns-clause-expires : goal.returns-clause-expires
returns-clause-expires g c = λ slots k seat r.
    let m = g.L.Law.meaning in
    let id = c.in-Some.id in
    let due = (shows_due m slots _ k id c.args.now r).1 c.in-Some.ensures.1 in
    let ends = c.end_connection.ensures.ends slots k seat (Expired c.args.now) r due in
    expires_at m slots k seat c.args.now id c.args.slot _ c.in-Some.ensures.0 due ends
    (λ (way : Way). (shows_bare _ slots _ _ id way ends.works.represents).1 (c.end_connection.ensures.bare way))
