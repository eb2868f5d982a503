-- 49: the first rule, table, map or procedure of the text past the greatest number of its kind, told at the rule or the statement.
-- The count is the greatest number and one.
use Rattle.std.specs.Prelude.{◌≡◌, ℕ, ◌+◌, Option, Some, None, List, [], ◌∷◌, ◌++◌, slice_get, length}
use Rattle.std.specs.List.{flat_map}
use Rattle.npf_types.specs.declared.limits.TheConstants.{MAX_RULES, MAX_TABLES, MAX_MAPS, MAX_PROCEDURES}
use Rattle.npf_types.specs.declared.span.Span.{Span}
use Rattle.npf_faults.specs.declared.fault.ConfFault.{ConfFault}
use Rattle.npf_faults.specs.declared.fault.Excess.{Excess}
use Rattle.npf_faults.specs.declared.fault.Excess.TheVariants as Of
use Rattle.npf_faults.specs.declared.fault.Fault.TheVariants.{TooMany}
use Rattle.npf_syntax.specs.declared.group.ItemTree.{ItemTree}
use Rattle.npf_syntax.specs.declared.group.ItemTree.TheVariants as ItemIs
use Rattle.npf_syntax.specs.declared.stmt.Stmt.{Stmt}
use Rattle.npf_syntax.specs.declared.stmt.Tree.{Tree}
use Rattle.npf_faults.specs.First.{fault_at}
use Rattle.npf_check.specs.declared.limit.SpanSearch.{SpanSearch}
use Rattle.npf_check.specs.declared.limit.SpanSearch.TheVariants.{At, Later}

abbrev pub rule_place : ItemTree → List Span
rule_place (ItemIs.Rule rule span) = rule.span ∷ []
rule_place (ItemIs.Ruleset name dir on span) = []

-- where the things of this kind stand that a statement has
abbrev pub limited_places : Excess → Stmt → List Span
limited_places Of.Rules (Stmt.Group head items span) = flat_map rule_place items
limited_places Of.Tables (Stmt.Table name kind file span) = span ∷ []
limited_places Of.Maps (Stmt.Map iface kind proto left arrow right pass span) = span ∷ []
limited_places Of.Procedures (Stmt.Procedure name calls span) = span ∷ []
limited_places _ _ = []

abbrev pub past_limit : Excess → ℕ → Option Span → List ConfFault
past_limit quantity most None = []
past_limit quantity most (Some span) = fault_at span (TooMany quantity (most + 1))

-- places are counted from 0, so the first that is too many has the greatest number
abbrev pub past_faults : Excess → ℕ → List Stmt → List ConfFault
past_faults quantity most stmts = past_limit quantity most (slice_get (flat_map (limited_places quantity) stmts) most)

abbrev pub limit_faults : Tree → List ConfFault
limit_faults tree =
    past_faults Of.Rules MAX_RULES tree.stmts
    ++ past_faults Of.Tables MAX_TABLES tree.stmts
    ++ past_faults Of.Maps MAX_MAPS tree.stmts
    ++ past_faults Of.Procedures MAX_PROCEDURES tree.stmts

-- the answer of a search for the item at a place: the item, or how many are to pass behind the last
abbrev pub FindsPlace : List Span → ℕ → SpanSearch → Type 0
FindsPlace spans place (At span) = slice_get spans place ≡ Some span
FindsPlace spans place (Later left) = place ≡ length spans + left
