use Rattle.std.proofs.Common.{◌∙◌, arith}
use Rattle.npf_pieces.proofs.HeaderLemmas.{number16_below, other_byte}
use Rattle.npf_pieces.proofs.header.put_header_v4.Goals as goal

pub returns : goal.returns
returns c =
    let old = c.args.header.now in
    let one = c.put16.new.bytes in
    let two = c.put16-2.new.bytes in
    let three = c.put16-3.new.bytes in
    let first = c.put16.ensures in
    let second = c.put16-2.ensures in
    let third = c.put16-3.ensures in
    let total = c.get16-old_total.ensures in
    let field = c.get16-old_fragment.ensures in
    record {
      count = omega arith;
      told = number16_below two three 10 2 third.before (omega arith) ∙ number16_below one two 6 2 second.before (omega arith) ∙ first.written;
      fragment = rw field at (number16_below two three 10 6 third.before (omega arith) ∙ second.written);
      sum = rw field at (rw total at (rw c.get16.ensures at (rw c.sum_adjust-sum.ensures.equation at (third.written ∙ c.sum_adjust.ensures.equation))));
      rest = λ at n2 n3 n6 n7 n10 n11.
          other_byte two three 10 at third.before third.after n10 n11
          ∙ other_byte one two 6 at second.before second.after n6 n7
          ∙ other_byte old one 2 at first.before first.after n2 n3;
    }
