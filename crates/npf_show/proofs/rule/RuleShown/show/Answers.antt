use Rattle.std.proofs.Common.{◌++◌}
use Rattle.npf_show.specs.{Bound.{dir_pieces, on_pieces}, Filter.filter_pieces, Piece.optional_pieces}
use Rattle.npf_show.{specs.Rule.{decision_pieces, state_pieces, final_pieces, apply_pieces}, proofs.PageLemmas.also}
use Rattle.npf_show.proofs.rule.RuleShown.show.Goals as goal

pub returns : goal.returns
returns c =
    let rule = c.args.self.now in
    let decision = decision_pieces rule.decision in
    let state = state_pieces rule.state in
    let dir = optional_pieces dir_pieces rule.dir in
    let last = final_pieces rule.last in
    let on = optional_pieces on_pieces rule.on in
    let filter = filter_pieces c.args.model.now rule in
    let apply = optional_pieces (apply_pieces c.args.model.now) rule.procedure in
    also _ (decision ++ state ++ dir ++ last ++ on ++ filter) apply
    (also _ (decision ++ state ++ dir ++ last ++ on) filter
    (also _ (decision ++ state ++ dir ++ last) on
    (also _ (decision ++ state ++ dir) last
    (also _ (decision ++ state) dir
    (also _ decision state c.in_ok-show.ensures c.in_ok-show-2.ensures) c.in_ok-show-3.ensures) c.in_ok-show_final.ensures) c.in_ok-show-4.ensures) c.in_ok-show_filter.ensures)
    c.in_ok-show_apply.ensures
