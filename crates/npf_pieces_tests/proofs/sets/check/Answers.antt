use Rattle.std.proofs.{Common.{[], ◌∷◌}, lemmas.List.Elements.{All-nil, All-push}}
use Rattle.npf_pieces.specs.Overlap.{IsTaken}
use Rattle.npf_pieces_tests.proofs.sets.check.Goals as goal

pub sets_of-requires : goal.sets_of-requires
sets_of-requires g c =
    let one = c.args.one in
    All-push IsTaken (one ∷ []) c.args.other (All-push IsTaken [] one (All-nil IsTaken) c.requires.one) c.requires.other
