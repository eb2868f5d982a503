use Rattle.npf_shelf.proofs.OptionLemmas.{OnOk-weaker}
use Rattle.npf_ctl_why.proofs.ListedLemmas.{told_line}
use Rattle.npf_ctl_why.proofs.listed.write_told.Goals as goal

pub returns : goal.returns
returns c = OnOk-weaker _ _ c.write_text-2.result
    (λ last. told_line c.args.into.now.items c.write_text.new.into.items c.write_candidate.new.into.items c.write_others.new.into.items c.write_text-2.new.into.items
    c.in-Some.first.now c.in-Some.others.now c.args.told.now c.in-Some.ensures.cases.0 c.in_ok-write_text.ensures c.in_ok-write_candidate.ensures c.in_ok-write_others.ensures last)
    c.write_text-2.ensures
