use Rattle.std.proofs.Common.{◌+◌, sym, ap, ◌∙◌}
use Rattle.npf_why_map.{specs.Place.maps_behind, proofs.PlaceLemmas.{or_behind, or_there, reasons_from, reasons_next}}
use Rattle.npf_why_map.proofs.place.reason_at.Goals as goal

pub returns-then-is_some : goal.returns-then-is_some
returns-then-is_some c =
    let stmts = c.as_slice-stmts.result.now in
    let i = c.loop-place.place in
    let stmt = c.index-stmts-place.result in
    let rest = c.loop-place.rest.now in
    let reason = c.reason_of-reason.result in
    sym (c.loop-place.invariant
    ∙ reasons_next c.args.at stmts i stmt rest c.loop-place-test.true c.index-stmts-place.is c.split_at.result.0.now c.split_at.ensures.front reason c.reason_of-reason.ensures
    ∙ or_there reason (reasons_from c.args.at stmts (i + 1) (maps_behind stmt rest)) c.if-is_some.ensures)

pub loop-place-preserved : goal.loop-place-preserved
loop-place-preserved c =
    let stmts = c.as_slice-stmts.result.now in
    let i = c.loop-place.place in
    let stmt = c.index-stmts-place.result in
    let rest = c.loop-place.rest.now in
    let reason = c.reason_of-reason.result in
    c.loop-place.invariant
    ∙ reasons_next c.args.at stmts i stmt rest c.loop-place-test.true c.index-stmts-place.is c.split_at.result.0.now c.split_at.ensures.front reason c.reason_of-reason.ensures
    ∙ or_behind reason (reasons_from c.args.at stmts (i + 1) (maps_behind stmt rest)) c.if-is_some.ensures
    ∙ ap (reasons_from c.args.at stmts (i + 1)) (sym c.maps_behind-rest.ensures)
