use Rattle.std.{proofs.Common.{sym, ap, ◌∙◌}, specs.Option.option_or}
use Rattle.npf_model.specs.Verdict.{last_where}
use Rattle.npf_ruleset.{specs.Packet.flat_matches, proofs.MatchLemmas.last_of_others}
use Rattle.npf_ruleset.proofs.packet.PacketView.answer_of.Goals as goal

pub returns-in-None-clause-value : goal.returns-in-None-clause-value
returns-in-None-clause-value c =
    let none = sym c.first_decider.ensures.value ∙ c.in-None.is in
    c.last_other.ensures.value ∙ last_of_others c.args.self.now 0 0 c.args.rules.now none
    ∙ sym (ap (λ o. option_or o (last_where (flat_matches c.args.self.now) 0 c.args.rules.now)) none)
