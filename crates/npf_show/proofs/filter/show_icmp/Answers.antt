use Rattle.std.proofs.Common.{◌∙◌, ◌++◌, ℕ, ap, codes}
use Rattle.npf_show.{specs.{Filter.code_pieces, Piece.{Word, Number, spelled, spaced, optional_pieces}}, proofs.PageLemmas.also}
use Rattle.npf_show.proofs.filter.show_icmp.Goals as goal

pub returns : goal.returns
returns c =
    let icmp = c.in-Some.icmp in
    let kind = spaced (Number icmp.0) in
    let code = optional_pieces code_pieces icmp.1 in
    let numbered = c.in_ok-number.ensures ∙ ap (λ (n : ℕ). c.word.new.self ++ spelled (spaced (Number n))) c.from.ensures in
    rw c.in-Some.is (also _ (spaced (Word (codes "icmp-type"))) (kind ++ code) c.in_ok-word.ensures (also _ kind code numbered c.in_ok-show_code.ensures))
