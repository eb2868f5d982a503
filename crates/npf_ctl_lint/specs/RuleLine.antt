-- The lines of a configuration's rules, and the line that counts them.
use Rattle.std.specs.Prelude.{◌+◌, ◌||◌, ℕ, Bool, true, false, Option, Some, None, List, [], ◌∷◌, ◌++◌, codes, length, nat_lt}
use Rattle.std.specs.Fmt.{decimal}
use Rattle.std.specs.List.{filter, flat_map}
use Rattle.npf_lint.specs.declared.found.Replacement.{Replacement}
use Rattle.npf_lint.specs.declared.found.RuleFinding.{RuleFinding}
use Rattle.npf_lint.specs.declared.found.RuleFinding.TheVariants as Found
use Rattle.npf_ctl_query.specs.QueryText.{ordinal_text}
use Rattle.npf_ctl_lint.specs.declared.rule_line.Lint.{Lint}
use Rattle.npf_ctl_lint.specs.declared.rule_line.Lint.TheVariants.{Dead, Redundant}

abbrev pub places_text : List ℕ → List ℕ
places_text places = flat_map (λ place. codes " " ++ ordinal_text place) places

abbrev pub none_words : Bool → List ℕ
none_words true = codes " none"
none_words false = []

-- what would answer in the rule's place: these rules, or none
abbrev pub redundant_line : ℕ → Replacement → List ℕ
redundant_line place replacement =
    codes "rule "
    ++ (ordinal_text place ++ (codes " redundant by" ++ (places_text replacement.others.items ++ (none_words replacement.none ++ codes "\n"))))

-- nothing is told of a rule that is needed
abbrev pub finding_line : ℕ → RuleFinding → List ℕ
finding_line place (Found.Reached packet) = []
finding_line place (Found.Redundant replacement) = redundant_line place replacement
finding_line place Found.Impossible = codes "rule " ++ (ordinal_text place ++ codes " dead impossible\n")
finding_line place (Found.Covered others) = codes "rule " ++ (ordinal_text place ++ (codes " dead covered" ++ (places_text others.items ++ codes "\n")))

-- the lines of rules of which the first has this place
abbrev pub finding_lines : ℕ → List RuleFinding → List ℕ
finding_lines place [] = []
finding_lines place (finding ∷ others) = finding_line place finding ++ finding_lines (place + 1) others

-- other rules would do the same, where there are some: what none would answer is blocked, so a rule that blocks it says what holds without it
abbrev pub lint_by : List ℕ → Option Lint
lint_by [] = None
lint_by (other ∷ others) = Some Redundant

-- what is found of a rule, if it is worth a look
abbrev pub lint_of : RuleFinding → Option Lint
lint_of (Found.Reached packet) = None
lint_of (Found.Redundant replacement) = lint_by replacement.others.items
lint_of Found.Impossible = Some Dead
lint_of (Found.Covered others) = Some Dead

abbrev pub is_lint : Lint → Option Lint → Bool
is_lint lint None = false
is_lint Dead (Some Dead) = true
is_lint Redundant (Some Redundant) = true
is_lint Dead (Some Redundant) = false
is_lint Redundant (Some Dead) = false

abbrev pub lint_count : Lint → List RuleFinding → ℕ
lint_count lint findings = length (filter (λ finding. is_lint lint (lint_of finding)) findings)

-- some rule is dead or redundant
abbrev pub some_idle_rule : List RuleFinding → Bool
some_idle_rule findings = nat_lt 0 (lint_count Dead findings) || nat_lt 0 (lint_count Redundant findings)

abbrev pub rule_counts_line : List RuleFinding → List ℕ
rule_counts_line findings =
    (codes "rules " ++ decimal (length findings))
    ++ ((codes " dead " ++ decimal (lint_count Dead findings)) ++ ((codes " redundant " ++ decimal (lint_count Redundant findings)) ++ codes "\n"))
