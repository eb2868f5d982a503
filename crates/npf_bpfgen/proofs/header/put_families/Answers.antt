use Rattle.std.{proofs.Common.{Bool, true, false, sym, subst}, specs.Prelude.OnOk}
use Rattle.npf_bpfgen.specs.{Condition.allows_family, Premise.GuardsPacket, ProgramLength.families_length, Tail.Extends}
use Rattle.npf_bpfgen.proofs.header.put_families.Goals as goal

pub returns-in-true-false-clause-value : goal.returns-in-true-false-clause-value
returns-in-true-false-clause-value c =
    let old = c.args.tail.now in
    let new = c.put_version.new.tail in
    subst (λ (v4 : Bool). OnOk c.put_version.result (GuardsPacket (λ tables facts. allows_family v4 c.args.v6 facts.src) old new)) (sym c.in-true-false.is-0)
    (subst (λ (v6 : Bool). OnOk c.put_version.result (GuardsPacket (λ tables facts. allows_family true v6 facts.src) old new)) (sym c.in-true-false.is-1)
    c.put_version.ensures.one)

pub returns-in-false-true-clause-value : goal.returns-in-false-true-clause-value
returns-in-false-true-clause-value c =
    let result = c.put_version-in-false-true.result in
    let old = c.args.tail.now in
    let new = c.put_version-in-false-true.new.tail in
    subst (λ (v4 : Bool). OnOk result (GuardsPacket (λ tables facts. allows_family v4 c.args.v6 facts.src) old new)) (sym c.in-false-true.is-0)
    (subst (λ (v6 : Bool). OnOk result (GuardsPacket (λ tables facts. allows_family false v6 facts.src) old new)) (sym c.in-false-true.is-1)
    c.put_version-in-false-true.ensures.one)

pub returns-in-false-false-clause-front : goal.returns-in-false-false-clause-front
returns-in-false-false-clause-front c =
    let result = c.put_refusal.result in
    let old = c.args.tail.now in
    let new = c.put_refusal.new.tail in
    subst (λ (v4 : Bool). OnOk result (Extends (families_length v4 c.args.v6) 1 old new)) (sym c.in-false-false.is-0)
    (subst (λ (v6 : Bool). OnOk result (Extends (families_length false v6) 1 old new)) (sym c.in-false-false.is-1) c.put_refusal.ensures.front)

pub returns-in-false-false-clause-value : goal.returns-in-false-false-clause-value
returns-in-false-false-clause-value c =
    let result = c.put_refusal.result in
    let old = c.args.tail.now in
    let new = c.put_refusal.new.tail in
    subst (λ (v4 : Bool). OnOk result (GuardsPacket (λ tables facts. allows_family v4 c.args.v6 facts.src) old new)) (sym c.in-false-false.is-0)
    (subst (λ (v6 : Bool). OnOk result (GuardsPacket (λ tables facts. allows_family false v6 facts.src) old new)) (sym c.in-false-false.is-1)
    c.put_refusal.ensures.value)
