use Rattle.std.proofs.Common.{◌≡◌, ◌++◌, refl}
use Rattle.npf_bpfgen.{proofs.{IcmpLemmas.{type_guards, type_test}, TailLemmas.extended}, specs.Instruction.if_message}
use Rattle.npf_bpfgen.proofs.icmp.put_type.Goals as goal

pub returns-clause-front : goal.returns-clause-front
returns-clause-front c =
    let is : c.put_message_test.new.tail ≡ if_message (type_test c.args.kind) ++ c.args.tail.now = rw (c.in_ok-put_message_test.ensures, c.in_ok-put.ensures, c.if_equal.ensures, c.from.ensures) in
    extended (if_message (type_test c.args.kind)) c.args.tail.now c.put_message_test.new.tail 12 1 is refl refl

pub returns-clause-value : goal.returns-clause-value
returns-clause-value c =
    let is : c.put_message_test.new.tail ≡ if_message (type_test c.args.kind) ++ c.args.tail.now = rw (c.in_ok-put_message_test.ensures, c.in_ok-put.ensures, c.if_equal.ensures, c.from.ensures) in
    type_guards c.args.kind c.args.tail.now c.put_message_test.new.tail is
