use Rattle.npf_turn.proofs.LetGoLemmas.{may_let_go, lets_go}
use Rattle.npf_turn.proofs.letting_go.let_go.Goals as goal

pub store_private-requires-clause-may : goal.store_private-requires-clause-may
store_private-requires-clause-may g c = may_let_go g.L.Law.meaning c.args.id _ _ _ c.load_epoch-epoch.ensures.next c.load_epoch-epoch.ensures.met c.requires.killed c.requires.bare

pub returns-clause-gone : goal.returns-clause-gone
returns-clause-gone g c = lets_go g.L.Law.meaning c.args.id _ _ _ c.load_epoch-epoch.ensures.next c.load_epoch-epoch.ensures.met _ c.store_private.ensures.next
