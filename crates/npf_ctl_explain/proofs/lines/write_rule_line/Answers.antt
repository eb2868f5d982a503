use Rattle.std.proofs.Common.{◌≡◌, ◌∙◌, ◌++◌, ap, codes}
use Rattle.npf_show.specs.{Piece.spelled, Rule.rule_pieces}
use Rattle.npf_ctl_query.specs.QueryText.{ordinal_text}
use Rattle.npf_ctl_explain.{specs.Word.rule_words, proofs.TextLemmas.piece_first}
use Rattle.npf_ctl_explain.proofs.lines.write_rule_line.Goals as goal

pub returns : goal.returns
returns c =
    let ordinal = ordinal_text c.args.entry.now.place in
    let words = rule_words c.args.told in
    let shown = spelled (rule_pieces c.args.model.now c.args.entry.now.rule.now) in
    let end = codes "\n" in
    let text = c.in_ok-write_bytes.ensures ∙ ap (λ bytes. c.write_text-2.new.into.items ++ bytes) (c.as_slice.ensures.value ∙ c.in_ok-shown.ensures) in
    piece_first _ (codes "rule ") (ordinal ++ (words ++ (codes "  " ++ (shown ++ end)))) c.in_ok-write_text.ensures
    (piece_first _ ordinal (words ++ (codes "  " ++ (shown ++ end))) c.in_ok-write_ordinal.ensures
    (piece_first _ words (codes "  " ++ (shown ++ end)) c.in_ok-write_rule_words.ensures
    (piece_first _ (codes "  ") (shown ++ end) c.in_ok-write_text-2.ensures (piece_first _ shown end text c.in_ok-write_text-3.ensures))))
