use Rattle.std.proofs.{Common.{◌-◌, ◌/◌, ◌^◌, sym, ◌∙◌, arith}, lemmas.Nat.shr_le}
use Rattle.npf_conndb.proofs.VacancyLemmas.{below_lowest_clear, bit_shifted}
use Rattle.npf_conndb.proofs.vacancy.clear_places.Goals as goal

pub returns-clause-clear : goal.returns-clause-clear
returns-clause-clear c = λ i from below.
    let word = c.args.word in
    let place = c.args.place in
    sym (bit_shifted word place i from) ∙ below_lowest_clear (word / 2 ^ place) (i - place) (omega (arith, shr_le word place, c.ranges.word.fits)) (omega (arith, from, below, c.min.ensures))
