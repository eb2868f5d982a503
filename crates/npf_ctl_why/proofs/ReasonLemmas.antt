-- Facts of a refusal, where it is known to be a fault.
use Rattle.std.proofs.Common.{◌≡◌, Err, List, subst}
use Rattle.npf_faults.specs.declared.{fault.ConfFault.ConfFault, fault.Refused.Refused}
use Rattle.npf_lexer.specs.declared.token.Token.{Token}
use Rattle.npf_parser.specs.{Parse.{HasMeaning, OnFault}, Stmt.file}
use Rattle.npf_syntax.specs.declared.stmt.Tree.{Tree}

pub no_meaning : (tokens given : List Token) (refused : Refused) (fault : ConfFault) → given ≡ tokens → refused ≡ Refused.Fault fault →
    OnFault {A = Tree} (Err refused) (λ f. ¬ HasMeaning file given) → ¬ HasMeaning file tokens
no_meaning tokens given refused fault same is holds =
    subst (λ (ts : List Token). ¬ HasMeaning file ts) same (subst (λ (r : Refused). OnFault {A = Tree} (Err r) (λ f. ¬ HasMeaning file given)) is holds)
