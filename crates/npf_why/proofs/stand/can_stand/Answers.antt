use Rattle.std.proofs.Common.{List, [], ◌∷◌, ◌++◌, Bool, MatchBool, ap, sym, subst, ◌∙◌}
use Rattle.npf_lexer.specs.declared.token.Sign.{Sign as SignType}
use Rattle.npf_lexer.specs.declared.token.Token.{Token}
use Rattle.npf_lexer.specs.declared.token.TokenKind.TheVariants as Kind
use Rattle.npf_why.specs.Candidate.{candidate_kind}
use Rattle.npf_why.specs.Stand.{CanStand, CannotStand, Passes, Stops, put}
use Rattle.npf_why.proofs.StandLemmas.{decided}
use Rattle.npf_why.proofs.stand.can_stand.Goals as goal

pub returns-clause-stands : goal.returns-clause-stands
returns-clause-stands c =
    let front = c.args.tokens.now.items in
    let kind = candidate_kind c.args.candidate.now in
    let last : List Token = put 2 (Kind.Sign SignType.OpenParen) ∷ put 3 Kind.End ∷ [] in
    subst (λ (b : Bool). MatchBool b (CanStand front kind) (CannotStand front kind)) (sym c.either.ensures)
    (decided front kind c.push.new.self.items (c.in_ok-push.ensures.items ∙ ap (λ (t : Token). front ++ t ∷ []) (c.put.ensures ∙ ap (put 1) c.in_ok-kind.ensures)) c.requires
    c.in_ok-alone.alone c.in_ok-called.called c.in_ok-alone.ensures.passes
    (subst (λ (ts : List Token). MatchBool c.in_ok-called.called (Passes (ts ++ last)) (Stops (ts ++ last))) c.in_ok-alone.ensures.same c.in_ok-called.ensures.passes))
