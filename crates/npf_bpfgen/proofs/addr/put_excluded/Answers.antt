use Rattle.std.{proofs.Common.{Bool, List, false, subst, arith}, specs.List.list_any}
use Rattle.npf_model.specs.{declared.ends.AddrItem.AddrItem, Describes.item_allows}
use Rattle.npf_bpfgen.{specs.{Condition.allows_family, Premise.GuardsPacket, ProgramLength.families_length, Tail.Extends}, proofs.{AddrLemmas.excluded_guards, TailLemmas.extended_twice}}
use Rattle.npf_bpfgen.proofs.addr.put_excluded.Goals as goal

pub returns-clause-front : goal.returns-clause-front
returns-clause-front c =
    let items : List AddrItem = c.args.items.now in
    let mid = c.put_absent.new.tail in
    let new = c.put_families.new.tail in
    let families = subst (λ (v6 : Bool). Extends (families_length (list_any (item_allows false) items) v6) 1 mid new) c.some_allow-2.ensures
    (subst (λ (v4 : Bool). Extends (families_length v4 c.some_allow-2.result) 1 mid new) c.some_allow.ensures c.in_ok-put_families.ensures.front) in
    extended_twice c.args.tail.now mid new _ _ _ c.in_ok-put_absent.ensures.front families (omega arith)

pub returns-clause-value : goal.returns-clause-value
returns-clause-value c =
    let items : List AddrItem = c.args.items.now in
    let mid = c.put_absent.new.tail in
    let new = c.put_families.new.tail in
    let families = subst (λ (v6 : Bool). GuardsPacket (λ tables facts. allows_family (list_any (item_allows false) items) v6 facts.src) mid new) c.some_allow-2.ensures
    (subst (λ (v4 : Bool). GuardsPacket (λ tables facts. allows_family v4 c.some_allow-2.result facts.src) mid new) c.some_allow.ensures c.in_ok-put_families.ensures.value) in
    excluded_guards c.args.endpoint items c.args.tail.now mid new c.in_ok-put_absent.ensures.value families
