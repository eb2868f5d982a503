use Rattle.std.proofs.Common.{◌++◌, codes}
use Rattle.npf_types.specs.Name.{name_bytes}
use Rattle.npf_show.specs.Map.{algo_pieces, arrow_pieces, one_proto_pieces, side_pieces, pass_pieces}
use Rattle.npf_show.{specs.Piece.{Word, Quoted, glued, spaced, line_end, optional_pieces}, proofs.PageLemmas.also}
use Rattle.npf_show.proofs.map.MapShown.show.Goals as goal

pub returns : goal.returns
returns c =
    let m = c.args.self.now in
    let first = glued (Word (codes "map")) in
    let on = spaced (Quoted (name_bytes m.on.name)) in
    let algo = algo_pieces m.algo in
    let proto = optional_pieces one_proto_pieces m.proto in
    let inside = side_pieces m.inside in
    let arrow = arrow_pieces m.arrow in
    let outside = side_pieces m.outside in
    let pass = optional_pieces (pass_pieces c.args.model.now) m.filter in
    also _ (first ++ on ++ algo ++ proto ++ inside ++ arrow ++ outside ++ pass) line_end
    (also _ (first ++ on ++ algo ++ proto ++ inside ++ arrow ++ outside) pass
    (also _ (first ++ on ++ algo ++ proto ++ inside ++ arrow) outside
    (also _ (first ++ on ++ algo ++ proto ++ inside) arrow
    (also _ (first ++ on ++ algo ++ proto) inside
    (also _ (first ++ on ++ algo) proto
    (also _ (first ++ on) algo
    (also _ first on c.in_ok-glued_word.ensures c.in_ok-show_name.ensures) c.in_ok-show.ensures) c.in_ok-show_protocol.ensures) c.in_ok-show-2.ensures) c.in_ok-show-3.ensures) c.in_ok-show-4.ensures)
    c.in_ok-show_pass.ensures) c.in_ok-end_line.ensures
