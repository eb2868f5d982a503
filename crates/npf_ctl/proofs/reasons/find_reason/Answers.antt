use Rattle.std.proofs.Common.{rules, None}
use Rattle.npf_ctl_input.proofs.AroundLemmas.{around_itself}
use Rattle.npf_ctl.proofs.reasons.find_reason.Goals as goal

pub find_with-requires : goal.find_with-requires
find_with-requires g c = search rules

pub returns-in-None-clause-found : goal.returns-in-None-clause-found
returns-in-None-clause-found g c =
    let first = g.F.Files.moment c.args.files.now in
    let last = g.F.Files.moment c.find_in.new.files in
    rw c.in-None.is (c.find_in.ensures.found first last None (around_itself first last) (search rules))

pub returns-clause-found : goal.returns-clause-found
returns-clause-found g c = rw c.in-Some.is c.find_with.ensures.found
