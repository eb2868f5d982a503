use Rattle.npf_core.proofs.ReplayLemmas.{replays_answers, replays_flows}
use Rattle.npf_core.proofs.laws.replay_law.Goals as goal

pub returns-clause-flows : goal.returns-clause-flows
returns-clause-flows g c = λ slots. replays_flows g.L.Law.meaning slots

pub returns-clause-answers : goal.returns-clause-answers
returns-clause-answers g c = λ slots. replays_answers g.L.Law.meaning slots
