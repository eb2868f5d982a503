use Rattle.std.proofs.Common.{◌≡◌, ◌++◌, refl}
use Rattle.npf_bpfgen.proofs.{FlagLemmas.{segment_guards, segment_test}, TailLemmas.extended}
use Rattle.npf_bpfgen.proofs.flag.put_segment.Goals as goal

pub returns-clause-front : goal.returns-clause-front
returns-clause-front c =
    let is : c.put.new.self ≡ segment_test 4 c.args.mask c.args.wanted ++ c.args.tail.now =
    rw (c.in_ok-put.ensures, c.if_equal.ensures, c.mask_with.ensures, c.from.ensures, c.if_equal-2.ensures, c.from-2.ensures) in
    extended (segment_test 4 c.args.mask c.args.wanted) c.args.tail.now c.put.new.self 7 1 is refl refl

pub returns-clause-value : goal.returns-clause-value
returns-clause-value c =
    let is : c.put.new.self ≡ segment_test 4 c.args.mask c.args.wanted ++ c.args.tail.now =
    rw (c.in_ok-put.ensures, c.if_equal.ensures, c.mask_with.ensures, c.from.ensures, c.if_equal-2.ensures, c.from-2.ensures) in
    segment_guards c.args.wanted c.args.mask c.args.tail.now c.put.new.self is
