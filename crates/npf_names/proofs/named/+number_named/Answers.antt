use Rattle.std.proofs.Common.{rules, sym, ap, ◌∙◌, ℕ, List, Bor}
use Rattle.std.specs.{Cmp.Lexicographic.slice_cmp, Ordering.nat_cmp}
use Rattle.npf_names.proofs.NameLemmas.{before_up, behind_up, if_less, if_equal, if_greater}
use Rattle.npf_names.proofs.named.+number_named.Goals as goal

abbrev row : Bor (List ℕ) × ℕ → List ℕ × ℕ
row r = (r.0.now, r.1)

pub number_named-requires : goal.number_named-requires
number_named-requires t c = (
  search rules,
  behind_up row c.args.names.now c.split_at.result.0.now c.split_at.result.1.now c.in-Some.behind.now c.in-Some.field-0-0.now _
      c.split_at.ensures.front c.split_at.ensures.back c.in-Some.ensures.cases c.requires.rising,
)

pub number_named-requires-in-Greater : goal.number_named-requires-in-Greater
number_named-requires-in-Greater t c = (
  search rules,
  before_up row c.args.names.now c.split_at.result.0.now c.split_at.result.1.now c.in-Some.behind.now c.in-Some.field-0-0.now _
      c.split_at.ensures.front c.split_at.ensures.back c.in-Some.ensures.cases c.requires.rising,
)

pub returns-in-Less : goal.returns-in-Less
returns-in-Less t c = c.number_named.ensures ∙ sym (if_less row c.args.names.now c.split_at.result.0.now c.split_at.result.1.now c.in-Some.behind.now c.in-Some.field-0-0.now _
    c.split_at.ensures.front c.split_at.ensures.back c.in-Some.ensures.cases c.requires.rising
    c.args.text.now (ap (λ name. slice_cmp nat_cmp name c.args.text.now) (sym c.as_bytes.ensures.value) ∙ sym c.cmp.ensures ∙ c.in-Less.is))

pub returns-in-Equal : goal.returns-in-Equal
returns-in-Equal t c = sym (if_equal row c.args.names.now c.split_at.result.0.now c.split_at.result.1.now c.in-Some.behind.now c.in-Some.field-0-0.now _
    c.split_at.ensures.front c.split_at.ensures.back c.in-Some.ensures.cases c.requires.rising
    c.args.text.now (ap (λ name. slice_cmp nat_cmp name c.args.text.now) (sym c.as_bytes.ensures.value) ∙ sym c.cmp.ensures ∙ c.in-Equal.is))

pub returns-in-Greater : goal.returns-in-Greater
returns-in-Greater t c = c.number_named-in-Greater.ensures ∙ sym (if_greater row c.args.names.now c.split_at.result.0.now c.split_at.result.1.now c.in-Some.behind.now c.in-Some.field-0-0.now _
    c.split_at.ensures.front c.split_at.ensures.back c.in-Some.ensures.cases c.requires.rising
    c.args.text.now (ap (λ name. slice_cmp nat_cmp name c.args.text.now) (sym c.as_bytes.ensures.value) ∙ sym c.cmp.ensures ∙ c.in-Greater.is))
