use Rattle.std.proofs.Common.{refl, ap}
use Rattle.npf_core.specs.declared.act.Why.TheVariants.{Expired}
use Rattle.npf_conndb.proofs.EndingLemmas.{killed_one, is_dead, expired_stays, expired_one, left_stays, left_idle}
use Rattle.npf_conndb.proofs.expire.expire_slot.Goals as goal

pub returns-in_default-clause-stays : goal.returns-in_default-clause-stays
returns-in_default-clause-stays g c = left_stays g.L.Law.meaning c.args.slot c.args.now _ _ c.requires.legal c.requires.between c.in_default.ensures.expires

pub returns-in_default-clause-expires : goal.returns-in_default-clause-expires
returns-in_default-clause-expires g c = left_idle g.L.Law.meaning c.args.slot c.args.now _ _ c.requires.legal c.requires.between c.in_default.ensures.expires

pub end_killed-requires-clause-exists : goal.end_killed-requires-clause-exists
end_killed-requires-clause-exists g c = rw c.in-Some.ensures.expires.0 c.requires.exists

pub end_killed-requires-clause-protected : goal.end_killed-requires-clause-protected
end_killed-requires-clause-protected g c = rw (ap (λ y. y.0.epochs.pin) c.in-Some.ensures.expires.1.is) c.requires.protected

pub end_killed-requires-clause-legal : goal.end_killed-requires-clause-legal
end_killed-requires-clause-legal g c = c.in-Some.ensures.expires.1.legal c.requires.legal

pub end_killed-requires-clause-killed : goal.end_killed-requires-clause-killed
end_killed-requires-clause-killed g c = killed_one g.L.Law.meaning c.in-Some.id (Expired c.args.now) _ _ _ c.requires.legal c.requires.between refl c.in-Some.ensures.expires.1

pub end_killed-requires-clause-dead : goal.end_killed-requires-clause-dead
end_killed-requires-clause-dead g c = is_dead g.L.Law.meaning c.in-Some.id (Expired c.args.now) _ _ _ c.requires.legal c.requires.between refl c.in-Some.ensures.expires.1

pub returns-clause-stays : goal.returns-clause-stays
returns-clause-stays g c =
    let killed = c.in-Some.ensures.expires in
    expired_stays g.L.Law.meaning c.in-Some.id c.args.slot c.args.now _ _ _ c.requires.legal c.requires.between killed.0 killed.1 c.end_killed.ensures.ends

pub returns-clause-expires : goal.returns-clause-expires
returns-clause-expires g c =
    let killed = c.in-Some.ensures.expires in
    expired_one g.L.Law.meaning c.in-Some.id c.args.slot c.args.now _ _ _ c.requires.legal c.requires.between killed.0 killed.1 c.end_killed.ensures.ends
