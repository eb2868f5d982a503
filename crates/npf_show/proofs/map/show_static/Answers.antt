use Rattle.std.proofs.Common.{◌++◌, codes}
use Rattle.npf_show.{specs.Piece.{Word, spaced}, proofs.PageLemmas.also}
use Rattle.npf_show.proofs.map.show_static.Goals as goal

pub returns : goal.returns
returns c =
    let algo = spaced (Word c.args.algo.now) in
    let word = spaced (Word (codes "algo")) in
    also _ (spaced (Word (codes "static"))) (word ++ algo) c.in_ok-word.ensures (also _ word algo c.in_ok-word-2.ensures c.in_ok-word-3.ensures)
