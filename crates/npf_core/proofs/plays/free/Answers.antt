use Rattle.std.proofs.Common.{rules, refl, ◌∙◌}
use Rattle.npf_core.{specs.PlainMachine.state_in, proofs.PlainMachineLemmas.{holds_nothing, freed}}
use Rattle.npf_core.proofs.plays.free.Goals as goal

pub returns-clause-plays : goal.returns-clause-plays
returns-clause-plays g c = λ seat. record {
  allowed = record {
    killed = search rules;
    none = holds_nothing (state_in c.args.machine.now) c.args.id c.holds_any.result c.holds_any.ensures c.if-holds_any.false;
    further = search rules;
  };
  replied = refl;
  goes_on = c.set_stage.ensures.state ∙ freed g.L.Law.meaning (state_in c.args.machine.now) seat c.args.id (search rules);
}
