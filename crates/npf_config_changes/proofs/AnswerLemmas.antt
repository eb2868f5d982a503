-- A rule is added in one way.
use Rattle.std.proofs.Common.{◌≡◌, ℕ, inl, inr, Result, Ok, Err, List, sym, ap, subst, ◌∙◌, arith}
use Rattle.npf_types.specs.{Reading.IsOnly, declared.span.Span.Span, Stages.{Stage, ◌andthen◌, gives, goes_on, stops}}
use Rattle.npf_faults.{specs.{declared.fault.ConfFault.ConfFault, First.{IsFirstFaultOf, NotBefore}}, proofs.FirstLemmas.{not_before, no_first}}
use Rattle.npf_lexer.specs.{declared.token.Token.Token, Lexer.{IsLexed, Lexed}}
use Rattle.npf_syntax.specs.declared.rule.RuleTree.{RuleTree}
use Rattle.npf_parser.{specs.{Parse.{Means as Parses, HaltsAt}, Stmt.lone_rule}, proofs.LineLemmas.lone_rule_advances}
use Rattle.npf_parser.proofs.ParseLemmas.{not_both, one_place, one_thing}
use Rattle.npf_model.specs.declared.{iface.Iface.Iface, model.Model.Model, rule.Rule.Rule}
use Rattle.npf_check.specs.LoneRule.{lone_faults}
use Rattle.npf_config_changes.specs.declared.fault.ChangeFault.{ChangeFault, TheVariants.Conf}
use Rattle.npf_config_changes.specs.Additions.{KeepsLimits, MeansRule, ReadsRule, in_checks, in_grammar, in_meaning, in_tokens, meant, written}
use Rattle.npf_config_changes.specs.ChangeLaws.{AreOneAnswer, AreToldAlike, HasOneResult, OneAddition, alike, equal}
use Rattle.npf_config_changes.specs.{Changes.{FindsRuleset, found_ruleset, with_ruleset}, Rulesets.{rulesets_named, with_rule_added}}
use Rattle.npf_config_changes.proofs.LawLemmas.{one_after, one_told}

-- a text has one tree or one fault
one_lexed : (text : List ℕ) (one other : Lexed) → IsOnly IsLexed text one → IsOnly IsLexed text other → one ≡ other
one_lexed text one other is there = there.only one is.reads

-- what holds of the tokens of one reading holds of those of another
along : (text : List ℕ) (tokens others : List Token) → IsOnly IsLexed text (Ok tokens) → IsOnly IsLexed text (Ok others) → (P : List Token → Type 0) → P others → P tokens
along text tokens others is other P there =
    let both = one_lexed text (Ok tokens) (Ok others) is other in
    let same : others ≡ tokens = cc in
    subst P same there

one_reading : (text : List ℕ) → HasOneResult (ReadsRule text)
one_reading text one two (written {tokens = ts} {tree = t} is parsed) (written {tokens = us} {tree = u} other parses) =
    ap Ok (one_thing lone_rule lone_rule_advances ts t u parsed (along text ts us is other (λ ts. Parses lone_rule ts u) parses))
one_reading text one two (written {tokens = ts} is _) (in_tokens {fault = g} other) = let same = one_lexed text (Ok ts) (Err g) is other in cc
one_reading text one two (written {tokens = ts} {tree = t} is parsed) (in_grammar {tokens = us} {span = span} other halts) =
    absurd (not_both lone_rule lone_rule_advances ts span (t, parsed) (along text ts us is other (λ ts. HaltsAt lone_rule ts span) halts))
one_reading text one two (in_tokens {fault = f} is) (written {tokens = us} other _) = let same = one_lexed text (Err f) (Ok us) is other in cc
one_reading text one two (in_tokens {fault = f} is) (in_tokens {fault = g} other) = let same = one_lexed text (Err f) (Err g) is other in cc
one_reading text one two (in_tokens {fault = f} is) (in_grammar {tokens = us} other _) = let same = one_lexed text (Err f) (Ok us) is other in cc
one_reading text one two (in_grammar {tokens = ts} {span = span} is halts) (written {tokens = us} {tree = u} other parses) =
    absurd (not_both lone_rule lone_rule_advances ts span (u, along text ts us is other (λ ts. Parses lone_rule ts u) parses) halts)
one_reading text one two (in_grammar {tokens = ts} is _) (in_tokens {fault = g} other) = let same = one_lexed text (Ok ts) (Err g) is other in cc
one_reading text one two (in_grammar {tokens = ts} {span = p} is halts) (in_grammar {tokens = us} {span = q} other there) =
    let same = one_place lone_rule lone_rule_advances ts p q halts (along text ts us is other (λ ts. HaltsAt lone_rule ts q) there) in cc

both_first : (fault other : ConfFault) → NotBefore fault other → NotBefore other fault → AreToldAlike (Conf fault) (Conf other)
both_first fault other (inl before) (inl behind) = absurd (omega (arith, before, behind))
both_first fault other (inl before) (inr same) = absurd (omega (arith, before, same.0))
both_first fault other (inr same) (inl behind) = absurd (omega (arith, behind, same.0))
both_first fault other (inr same) (inr again) = alike same.0 (omega (arith, same.1, again.1))

told_alike : (faults : List ConfFault) (fault other : ConfFault) → IsFirstFaultOf faults fault → IsFirstFaultOf faults other → AreToldAlike (Conf fault) (Conf other)
told_alike faults fault other is there = both_first fault other (not_before faults fault other is there.listed) (not_before faults other fault there is.listed)

abbrev HasOneAnswer : {A : Type 0} → Stage A ChangeFault → Type 0
HasOneAnswer {A} stage = (one two : Result A ChangeFault) → stage one → stage two → AreOneAnswer one two

-- a tree has one meaning, or first faults
module _ (ifaces : List Iface) (model : Model) (tree : RuleTree) where
  one_meaning : HasOneAnswer (MeansRule ifaces model tree)
  one_meaning one two (meant is _) (meant other _) = is.meant ∙ sym other.meant
  one_meaning one two (meant is _) (in_meaning {fault = g} other) = absurd (no_first _ g is.clean other)
  one_meaning one two (meant is clean) (in_checks {fault = g} other first) =
      absurd (no_first _ g (ap (lone_faults tree) (other.meant ∙ sym is.meant) ∙ clean) first)
  one_meaning one two (in_meaning {fault = f} is) (meant other _) = absurd (no_first _ f other.clean is)
  one_meaning one two (in_meaning {fault = f} is) (in_meaning {fault = g} other) = told_alike _ f g is other
  one_meaning one two (in_meaning {fault = f} is) (in_checks other _) = absurd (no_first _ f other.clean is)
  one_meaning one two (in_checks {fault = f} is first) (meant other clean) =
      absurd (no_first _ f (ap (lone_faults tree) (is.meant ∙ sym other.meant) ∙ clean) first)
  one_meaning one two (in_checks is _) (in_meaning {fault = g} other) = absurd (no_first _ g is.clean other)
  one_meaning one two (in_checks {fault = f} is first) (in_checks {fault = g} other second) =
      told_alike _ f g first (subst (λ (rule : Rule). IsFirstFaultOf (lone_faults tree rule) g) (other.meant ∙ sym is.meant) second)

one_kept : (span : Span) (rule : Rule) (next : Model) → HasOneResult (KeepsLimits span rule next)
one_kept span rule next = one_after _ _ (one_told _) (λ _. one_after _ _ (one_told _) (λ _. one_after _ _ (one_told _) (λ _. one_told _)))

one_answer : {A : Type 0} (stage : Stage A ChangeFault) → HasOneResult stage → HasOneAnswer stage
one_answer stage is (Ok a) (Ok b) one other = let same = is (Ok a) (Ok b) one other in cc
one_answer stage is (Err f) (Err g) one other = let same = is (Err f) (Err g) one other in equal cc
one_answer stage is (Ok a) (Err g) one other = let same = is (Ok a) (Err g) one other in cc
one_answer stage is (Err f) (Ok b) one other = let same = is (Err f) (Ok b) one other in cc

-- stages come to one answer where the first does, and the next ones on what it comes to
answer_after : {A B : Type 0} (first : Stage A ChangeFault) (next : A → Stage B ChangeFault) → HasOneAnswer first → ((a : A) → first (Ok a) → HasOneAnswer (next a)) → HasOneAnswer (first andthen next)
answer_after first next answers next_answers one two (stops {fault = f} is) (stops {fault = g} other) = answers (Err f) (Err g) is other
answer_after first next answers next_answers one two (stops {fault = f} is) (goes_on {a = b} other _) = absurd (answers (Err f) (Ok b) is other)
answer_after first next answers next_answers one two (goes_on {a = a} is _) (stops {fault = g} other) = absurd (answers (Ok a) (Err g) is other)
answer_after {A} first next answers next_answers one two (goes_on {a = a} is then_is) (goes_on {a = b} other then_other) =
    next_answers b other one two (subst (λ (x : A). next x one) (answers (Ok a) (Ok b) is other) then_is) then_other

pub one_addition : OneAddition
one_addition old name ifaces text =
    answer_after (FindsRuleset name old.model) _ (one_answer (FindsRuleset name old.model) (one_told (found_ruleset (rulesets_named name old.model))))
    (λ dynamic _. answer_after (ReadsRule text) _ (one_answer (ReadsRule text) (one_reading text))
    (λ tree _. answer_after (MeansRule ifaces old.model tree) _ (one_meaning ifaces old.model tree)
    (λ rule _. let next = with_ruleset name (with_rule_added rule) old in
    one_answer (KeepsLimits tree.span rule next.model andthen λ _. gives (next, dynamic.next_id))
    (one_after (KeepsLimits tree.span rule next.model) _ (one_kept tree.span rule next.model) (λ _. one_told (Ok (next, dynamic.next_id)))))))
