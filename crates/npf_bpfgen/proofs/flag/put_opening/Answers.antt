use Rattle.std.proofs.Common.{◌≡◌, ◌++◌, refl}
use Rattle.npf_bpfgen.proofs.{FlagLemmas.{opening_guards, segment_test}, TailLemmas.extended}
use Rattle.npf_bpfgen.proofs.flag.put_opening.Goals as goal

pub returns-clause-front : goal.returns-clause-front
returns-clause-front c =
    let is : c.put.new.self ≡ segment_test 5 23 2 ++ c.args.tail.now = rw (c.in_ok-put.ensures, c.if_equal.ensures, c.mask_with.ensures, c.if_equal-2.ensures) in
    extended (segment_test 5 23 2) c.args.tail.now c.put.new.self 7 1 is refl refl

pub returns-clause-value : goal.returns-clause-value
returns-clause-value c =
    let is : c.put.new.self ≡ segment_test 5 23 2 ++ c.args.tail.now = rw (c.in_ok-put.ensures, c.if_equal.ensures, c.mask_with.ensures, c.if_equal-2.ensures) in
    opening_guards c.args.tail.now c.put.new.self is
