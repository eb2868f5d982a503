use Rattle.std.proofs.Common.{◌-◌, ◌++◌, ◌∙◌, ap, drop, length, arith}
use Rattle.npf_report.proofs.PageLemmas.{part_in_front}
use Rattle.npf_report.proofs.crossed.Crossed.write.Goals as goal

pub returns-clause-written : goal.returns-clause-written
returns-clause-written c =
    let crossed = c.args.self.now in
    let long = ap length c.copy_from_slice.ensures.after in
    part_in_front c.args.page.now c.copy_from_slice.new.self (c.args.end - 24) crossed.start c.args.end (omega arith) c.requires.within (omega (arith, long, crossed.within))
    ∙ ap (λ text. text ++ drop c.args.end c.args.page.now) (ap (drop crossed.start) c.copy_from_slice.ensures.after ∙ crossed.spelt)
