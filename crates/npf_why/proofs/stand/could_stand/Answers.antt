use Rattle.std.{proofs.Common.{All, List, ℕ, take, ap, sym, subst, ◌∙◌}, specs.List.prefix_len}
use Rattle.npf_lexer.specs.declared.token.Token.{Token}
use Rattle.npf_why.specs.Stand.{HasLine, is_before}
use Rattle.npf_why.proofs.StandLemmas.{front_lines}
use Rattle.npf_why.proofs.stand.could_stand.Goals as goal

pub those_that_stand-requires : goal.those_that_stand-requires
those_that_stand-requires c =
    let tokens = c.in_ok-tokens.tokens.items in
    let at = c.args.at in
    subst (All HasLine)
    (sym (c.truncate.ensures.items ∙ ap (λ (n : ℕ). take n tokens) (c.front_len-front.ensures ∙ ap (λ (ts : List Token). prefix_len (is_before at) ts) c.deref.ensures.value)))
    (front_lines at tokens)
