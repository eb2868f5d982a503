use Rattle.npf_pool.proofs.TakeLemmas.{if_none, sees_then, claimed_since, before_search, needs_still}
use Rattle.npf_pool.proofs.takes.find_clear.Goals as goal

pub sweep-requires-clause-needs : goal.sweep-requires-clause-needs
sweep-requires-clause-needs g c = λ e. needs_still g.H.KeyHash.digest c.args.pass.now.seat.me c.find_hinted.new.pass.seat.me (c.find_hinted.ensures.searches e) (c.requires.needs e)

pub returns-in-None-clause-sees : goal.returns-in-None-clause-sees
returns-in-None-clause-sees g c = λ e. sees_then g.L.Law.meaning c.args.pass.now.seat.me c.find_hinted.new.pass.seat.me c.sweep.new.pass.seat.me (c.find_hinted.ensures.sees e) (c.sweep.ensures.sees e)

pub returns-in-None-clause-full : goal.returns-in-None-clause-full
returns-in-None-clause-full g c = if_none c.sweep.result _ _ (λ full e word h.
    before_search g.L.Law.meaning g.H.KeyHash.digest c.args.cells.now.table.shared.key c.args.pass.now.seat.me c.find_hinted.new.pass.seat.me word
    (c.find_hinted.ensures.searches e) (full e word h)) c.sweep.ensures.full

pub returns-in-None-clause-claimed : goal.returns-in-None-clause-claimed
returns-in-None-clause-claimed g c = if_none c.sweep.result _ _
    (λ full e. claimed_since g.L.Law.meaning c.args.pass.now.seat.me c.find_hinted.new.pass.seat.me c.sweep.new.pass.seat.me (c.find_hinted.ensures.sees e) (full e)) c.sweep.ensures.claimed
