use Rattle.std.{proofs.Common.{◌∙◌, ◌++◌, ap, List, ℕ}, specs.List.flat_map}
use Rattle.npf_show.specs.{Group.group_lines, Map.map_line, Model.{declared_lines, model_pieces}, Piece.spelled, Procedure.procedure_lines}
use Rattle.npf_show.{specs.{Setting.{alg_line, set_line, shown_settings}, Table.table_line}, proofs.PageLemmas.also}
use Rattle.npf_show.proofs.model.show.Goals as goal

pub returns : goal.returns
returns c =
    let model = c.args.model.now in
    let settings = flat_map set_line (shown_settings model.settings) in
    let alg = alg_line model.alg_icmp in
    let tables = flat_map table_line model.tables in
    let maps = flat_map (map_line model) model.maps in
    let procedures = flat_map procedure_lines model.procedures in
    let groups = flat_map (group_lines model) model.groups in
    c.into_text.ensures
    ∙ also _ (settings ++ alg) (declared_lines model) (also _ settings alg c.in_ok-show_settings.ensures c.in_ok-show_alg.ensures)
    (also _ (tables ++ maps ++ procedures) groups
    (also _ (tables ++ maps) procedures
    (also _ tables maps c.in_ok-show_each.ensures c.in_ok-show_each-2.ensures) c.in_ok-show_each-3.ensures) c.in_ok-show_each-4.ensures)
    ∙ ap (λ (text : List ℕ). text ++ spelled (model_pieces model)) c.new-page.ensures
