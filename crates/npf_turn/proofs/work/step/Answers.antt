use Rattle.std.proofs.Common.{refl, ap, ◌∙◌}
use Rattle.npf_turn.proofs.WorkLemmas.{works, gone, may_step}
use Rattle.npf_turn.proofs.work.step.Goals as goal

pub end_turn-requires-clause-may : goal.end_turn-requires-clause-may
end_turn-requires-clause-may g c =
    let got = works _ _ c.args.id.slot c.wait_turn.ensures.takes in
    let on = gone _ _ _ _ _ _ got g.L.Law.meaning c.args.way c.args.arg.now _ _ c.step_flow-stepped.ensures.steps refl in
    may_step _ _ _ _ _ _ on g.L.Law.meaning c.args.id c.args.n c.args.way c.args.arg refl c.requires.turnless c.requires.known refl refl
