use Rattle.std.proofs.Common.{arith, ◌≡◌}
use Rattle.npf_oneturn_store.proofs.KeptLemmas.{named_by}
use Rattle.npf_oneturn_store.proofs.keys.Keys.name.Goals as goal

pub returns-clause-named : goal.returns-clause-named
returns-clause-named c = λ dry.
    let s = c.args.self.now in
    let celled = rw c.requires.written at s.sized.celled in
    let cell = c.in-Some-Ok.ensures.within in
    let same : c.in-Some-Ok.name ≡ c.args.place = c.in-Some-Ok.ensures'.1 in
    rw same (named_by s.cells.items c.in-Some-Ok.cell c.args.place c.args.bucket (omega (arith, cell.0, cell.1, celled, c.requires.exists)) cell.0 cell.1)
