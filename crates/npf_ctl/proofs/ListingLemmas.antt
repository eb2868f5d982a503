-- What is said of a configuration's rules, rule by rule.
use Rattle.std.proofs.Common.{◌≡◌, ◌∙◌, ℕ, ◌+◌, ◌<◌, ◌≤◌, suc, List, [], ◌∷◌, ◌++◌, length, get_or, drop, refl, sym, ap, append_assoc, append-nil}
use Rattle.std.proofs.lemmas.List.{drop_more, drop_all}
use Rattle.npf_ruleset.specs.{declared.flat.FlatRule.FlatRule, Flat.programs_of}
use Rattle.npf_ctl.specs.Texts.{program_text, programs_text}

-- there are as many programs as rules
pub count_of_programs : (rules : List FlatRule) → length (programs_of rules) ≡ length rules
count_of_programs [] = refl
count_of_programs (rule ∷ rules) = ap suc (count_of_programs rules)

-- what was written so far, and the programs behind
abbrev pub with_rest : List ℕ → List FlatRule → ℕ → List ℕ
with_rest text rules place = text ++ programs_text (place + 1) (programs_of (drop place rules))

pub next_program : (text : List ℕ) (rules : List FlatRule) (place : ℕ) (rule : FlatRule) → place < length rules → rule ≡ get_or rules place rule →
    with_rest (text ++ program_text (place + 1) rule.program) rules (place + 1) ≡ with_rest text rules place
next_program text rules place rule within is =
    let here : drop place rules ≡ rule ∷ drop (place + 1) rules = drop_more rules place rule within ∙ ap (λ r. r ∷ drop (place + 1) rules) (sym is) in
    rw (here) (append_assoc text (program_text (place + 1) rule.program) (programs_text (place + 1 + 1) (programs_of (drop (place + 1) rules))))

pub last_program : (text : List ℕ) (rules : List FlatRule) (place : ℕ) → length rules ≤ place → with_rest text rules place ≡ text
last_program text rules place past = rw (drop_all place rules past, append-nil text) refl
