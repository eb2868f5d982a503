use Rattle.std.proofs.Common.{List, [], ◌∷◌, ◌++◌, MatchBool, ap, subst, ◌∙◌, append_assoc}
use Rattle.npf_lexer.specs.declared.token.Sign.{Sign as SignType}
use Rattle.npf_lexer.specs.declared.token.Token.{Token}
use Rattle.npf_lexer.specs.declared.token.TokenKind.TheVariants as Kind
use Rattle.npf_why.specs.Stand.{Passes, Stops, put}
use Rattle.npf_why.proofs.stand.passes_call.Goals as goal

pub returns-clause-passes : goal.returns-clause-passes
returns-clause-passes c =
    let old = c.args.tokens.now.items in
    let call = put 2 (Kind.Sign SignType.OpenParen) in
    let last : List Token = put 3 Kind.End ∷ [] in
    subst (λ (all : List Token). MatchBool c.in_ok-passes.passes (Passes all) (Stops all))
    (ap (λ (us : List Token). us ++ last) (c.in_ok-push.ensures.items ∙ ap (λ (t : Token). old ++ t ∷ []) c.put.ensures) ∙ append_assoc old (call ∷ []) last) c.in_ok-passes.ensures.passes
