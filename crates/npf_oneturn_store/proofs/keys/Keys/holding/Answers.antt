use Rattle.std.proofs.Common.{◌≡◌, sym, ap, ◌∙◌, Some, None, true, false}
use Rattle.npf_core.{specs.{declared.hold.Holding.Holding, NextState.is_found}, proofs.EqualityLemmas.is_found-Decides}
use Rattle.npf_oneturn_store.{specs.Places.standing, proofs.HomeLemmas.{holds_nothing, some_holding}}
use Rattle.npf_oneturn_store.proofs.keys.Keys.holding.Goals as goal

pub returns-in_default-clause-none : goal.returns-in_default-clause-none
returns-in_default-clause-none c =
    let s = c.args.self.now in
    holds_nothing s.buckets s.holdings.items s.cells.items s.spilled.items s.kept c.args.found (λ holding there own.
    let same = some_holding c.in-Some.holding holding (sym c.in-Some.is ∙ (c.standing.ensures ∙ (ap (standing s.holdings.items) c.key_place.ensures ∙ there))) in
    let yes : is_found c.in-Some.holding.found c.args.found ≡ true = (is_found-Decides c.in-Some.holding.found c.args.found).1 (ap (λ (h : Holding). h.found) same ∙ own) in
    let no : false ≡ true = sym c.if-is_found.false ∙ (c.is_found.ensures ∙ yes) in
    absurd cc)

pub returns-in_default-2-clause-none : goal.returns-in_default-2-clause-none
returns-in_default-2-clause-none c =
    let s = c.args.self.now in
    holds_nothing s.buckets s.holdings.items s.cells.items s.spilled.items s.kept c.args.found (λ holding there own.
    let no : None ≡ Some holding = sym c.in_default.is ∙ (c.standing.ensures ∙ (ap (standing s.holdings.items) c.key_place.ensures ∙ there)) in
    absurd cc)
