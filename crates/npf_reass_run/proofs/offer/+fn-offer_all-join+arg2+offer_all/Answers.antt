use Rattle.std.proofs.Common.{◌-◌, ◌/◌, ◌≤◌, arith}
use Rattle.npf_reass.specs.Passes.{sight}
use Rattle.npf_reass_run.proofs.OfferLemmas.{all_offered, both_ok}
use Rattle.npf_reass_run.proofs.offer.+fn-offer_all-join+arg2+offer_all.Goals as goal

pub returns-clause-offers : goal.returns-clause-offers
returns-clause-offers g t c =
    let answers = c.join-pass.result in
    let behind = c.args.behind in
    let mid = behind - behind / c.args.workers in
    let low : mid ≤ behind = omega arith in
    rw c.and.ensures (both_ok answers.0.1 answers.1.1 c.join-pass.ensures.first.2
    c.join-pass.ensures.second.2
    (λ has others. all_offered (g.S.Scan.packets c.args.scan.now) mid behind (sight answers.0.0)
    (sight answers.1.0) (sight c.join.new.pass) low c.requires.within c.join.ensures.joins has
    others))
