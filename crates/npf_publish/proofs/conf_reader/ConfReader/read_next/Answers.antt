use Rattle.std.proofs.Common.{ℕ, ◌<◌, Option, IfSome, arith, subst, ◌∙◌}
use Rattle.npf_publish.specs.{NumberRange.IsInRange, ConfReader.{Reads, looks_made}, declared.number_range.NumberRange.NumberRange}
use Rattle.npf_publish.proofs.conf_reader.ConfReader.read_next.Goals as goal

pub returns-in-Some-number : goal.returns-in-Some-number
returns-in-Some-number g c =
    let kept = c.loop.invariant in
    let next = c.look-next.result.0 in
    let read : Reads c.loop.reader next c.in-Some-number.number =
    subst (λ (o : Option ℕ). IfSome o (Reads c.loop.reader next)) c.in-Some-number.is c.look-next.ensures.read in
    let looked : looks_made c.loop.reader < looks_made next =
    subst (λ (o : Option ℕ). IfSome o (λ _. looks_made c.loop.reader < looks_made next)) c.in-Some-number.is c.look-next.ensures.looks in
    record {
      range = read.range ∙ kept.range;
      within = subst (λ (r : NumberRange). IsInRange c.in-Some-number.number r) kept.range read.within;
      shown = read.shown;
      looks = λ early. omega (arith, kept.looks, looked);
      rises = omega (arith, kept.least, read.rises);
      least = read.least;
    }
