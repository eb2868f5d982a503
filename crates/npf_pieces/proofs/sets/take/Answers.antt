use Rattle.std.proofs.Common.{◌∙◌, refl, sym}
use Rattle.npf_pieces.proofs.{JudgedLemmas.{judged_end, judged_more}, OpenSetLemmas.covered_within}
use Rattle.npf_pieces.proofs.sets.take.Goals as goal

pub take-requires-clause-room : goal.take-requires-clause-room
take-requires-clause-room c = covered_within _ c.args.known.now c.requires.knows

pub returns-in-None-clause-judged : goal.returns-in-None-clause-judged
returns-in-None-clause-judged c = λ to wanted more inside judged.
    let known = c.args.known.now in
    let place = c.take.ensures.place in
    let on = sym (c.in-None.ensures.ends _ judged.knows) in
    judged_more c.args.arrived.now to wanted known c.take.new.self c.args.sets.now.items judged known.order inside _ more
    (c.requires.timely _) on (c.in-None.ensures.adds _ judged.knows refl) place.0 place.1

pub returns-in_ok-close-in-Some-clause-judged : goal.returns-in_ok-close-in-Some-clause-judged
returns-in_ok-close-in-Some-clause-judged c = λ to wanted more inside judged.
    let known = c.args.known.now in
    let place = c.take.ensures.place in
    let closed = c.in_ok-close-in-Some.ensures in
    let on = sym (c.in-Some.ensures.ends _ judged.knows) in
    rw closed.closed (rw place.0 (rw place.1 (
    judged_end c.args.arrived.now to wanted known c.close.new.known c.args.sets.now.items judged known.order inside _ more
    c.in-Some.ending (c.requires.timely _) on closed.none (closed.first ∙ place.1) (closed.behind ∙ place.1)
    )))
