use Rattle.std.proofs.Common.{◌++◌, codes}
use Rattle.npf_show.{specs.{Piece.{Word, Sign, glued, indent, line_end, comma_list}, Procedure.normal_option}, proofs.PageLemmas.also}
use Rattle.npf_show.proofs.procedure.show_options_line.Goals as goal

pub returns : goal.returns
returns c =
    let word = glued (Word (codes "normalize")) in
    let colon = glued (Sign (codes ":")) in
    let options = comma_list normal_option c.args.options.now in
    also _ (indent ++ word ++ colon ++ options) line_end
    (also _ (indent ++ word ++ colon) options
    (also _ (indent ++ word) colon
    (also _ indent word c.in_ok-indent.ensures c.in_ok-glued_word.ensures) c.in_ok-glued_sign.ensures) c.in_ok-show_with_commas.ensures) c.in_ok-end_line.ensures
