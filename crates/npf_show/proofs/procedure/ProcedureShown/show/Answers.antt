use Rattle.std.proofs.Common.{◌++◌}
use Rattle.npf_show.specs.{Piece.{closing_line, optional_pieces}, Procedure.{procedure_head, log_line, normalize_line, normal_options}}
use Rattle.npf_show.proofs.PageLemmas.{also}
use Rattle.npf_show.proofs.procedure.ProcedureShown.show.Goals as goal

pub returns : goal.returns
returns c =
    let procedure = c.args.self.now in
    let head = procedure_head procedure in
    let log = optional_pieces log_line procedure.log in
    let normal = normalize_line (normal_options procedure) in
    also _ (head ++ log ++ normal) closing_line
    (also _ (head ++ log) normal
    (also _ head log c.in_ok-show_head.ensures c.in_ok-show_log.ensures) c.in_ok-show_normalize.ensures) c.in_ok-close.ensures
