use Rattle.std.proofs.Common.{◌≡◌, ◌∙◌, ◌++◌, ap, codes}
use Rattle.npf_show.specs.{Map.map_line, Piece.spelled}
use Rattle.npf_ctl_query.specs.QueryText.{ordinal_text}
use Rattle.npf_ctl_explain.{specs.Word.map_words, proofs.TextLemmas.piece_first}
use Rattle.npf_ctl_explain.proofs.lines.write_map_line.Goals as goal

pub returns : goal.returns
returns c =
    let ordinal = ordinal_text c.args.place in
    let words = map_words c.args.told in
    let shown = spelled (map_line c.args.model.now c.args.map.now) in
    let text = c.in_ok-write_bytes.ensures ∙ ap (λ bytes. c.write_text-2.new.into.items ++ bytes) (c.as_slice.ensures.value ∙ c.in_ok-shown.ensures) in
    piece_first _ (codes "map ") (ordinal ++ (words ++ (codes "  " ++ shown))) c.in_ok-write_text.ensures
    (piece_first _ ordinal (words ++ (codes "  " ++ shown)) c.in_ok-write_ordinal.ensures
    (piece_first _ words (codes "  " ++ shown) c.in_ok-write_map_words.ensures (piece_first _ (codes "  ") shown c.in_ok-write_text-2.ensures text)))
