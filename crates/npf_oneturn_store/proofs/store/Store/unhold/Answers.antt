use Rattle.std.proofs.Common.{sym, ◌∙◌}
use Rattle.npf_core.proofs.HolderLemmas.{given_up_gone}
use Rattle.npf_oneturn_store.{specs.Keys.keeper_of, proofs.GivenUpLemmas.given_up_others}
use Rattle.npf_oneturn_store.proofs.store.Store.unhold.Goals as goal

pub returns-clause-gone : goal.returns-clause-gone
returns-clause-gone g c = λ key held.
    given_up_gone (keeper_of c.args.self.now.keys key) (record { id = c.args.id; way = c.args.way }) (sym (c.take_back.ensures.holder key) ∙ held)

pub returns-clause-bare : goal.returns-clause-bare
returns-clause-bare g c = λ other way none key held.
    given_up_others (keeper_of c.args.self.now.keys key) (record { id = c.args.id; way = c.args.way }) (record { id = other; way = way }) (none key)
    (sym (c.take_back.ensures.holder key) ∙ held)
