use Rattle.std.proofs.Common.{◌==◌, ℕ, Bool, List, sym, ◌∙◌}
use Rattle.npf_shelf.proofs.PositionLemmas.{position-some_before, position-none_before}
use Rattle.npf_saved.proofs.CutLemmas.{found_behind, none_behind}
use Rattle.npf_saved.proofs.words.cut.Goals as goal

pub returns-in-Some-clause-word : goal.returns-in-Some-clause-word
returns-in-Some-clause-word c = position-some_before (λ byte. byte == c.args.mark) c.args.text.now c.in-Some.at (sym c.first_place.ensures ∙ c.in-Some.is)

pub returns-in-Some-clause-behind : goal.returns-in-Some-clause-behind
returns-in-Some-clause-behind c = found_behind (λ byte. byte == c.args.mark) c.args.text.now c.in-Some.at (sym c.first_place.ensures ∙ c.in-Some.is)

pub returns-in-None-clause-word : goal.returns-in-None-clause-word
returns-in-None-clause-word c = position-none_before (λ byte. byte == c.args.mark) c.args.text.now (sym c.first_place.ensures ∙ c.in-None.is)

pub returns-in-None-clause-behind : goal.returns-in-None-clause-behind
returns-in-None-clause-behind c = none_behind (λ byte. byte == c.args.mark) c.args.text.now (sym c.first_place.ensures ∙ c.in-None.is)
