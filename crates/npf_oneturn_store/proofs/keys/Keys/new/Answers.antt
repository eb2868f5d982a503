use Rattle.std.proofs.Common.{refl}
use Rattle.npf_oneturn_store.proofs.KeptLemmas.{kept_new}
use Rattle.npf_oneturn_store.proofs.keys.Keys.new.Goals as goal

pub invariant_of-result-clause-kept : goal.invariant_of-result-clause-kept
invariant_of-result-clause-kept c = rw c.in_ok-with_capacity.ensures.items (kept_new c.max-buckets.result c.in_ok-with_capacity-2.field-0.items c.in_ok-with_capacity-3.field-0.items)

pub returns-clause-unheld : goal.returns-clause-unheld
returns-clause-unheld c = λ key. rw c.in_ok-with_capacity.ensures.items refl
