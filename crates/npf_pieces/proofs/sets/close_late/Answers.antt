use Rattle.std.proofs.Common.{◌∙◌, sym}
use Rattle.npf_pieces.proofs.JudgedLemmas.{judged_late, range_empty}
use Rattle.npf_pieces.proofs.sets.close_late.Goals as goal

pub returns-clause-judged : goal.returns-clause-judged
returns-clause-judged c = λ to wanted more inside judged.
    let known = c.args.known.now in
    let closed = c.in_ok-close.ensures in
    let late = sym (c.is_late.ensures _ judged.knows) ∙ c.if-not-is_late.false in
    rw closed.closed (judged_late c.args.arrived.now to wanted known c.close.new.known c.args.sets.now.items judged known.order inside _ more late closed.none closed.first closed.behind)

pub returns-clause-knows : goal.returns-clause-knows
returns-clause-knows c =
    let closed = c.in_ok-close.ensures in
    let new = c.close.new.known in
    rw (range_empty c.args.arrived.now new.first new.behind (closed.first ∙ sym closed.behind)) closed.none
