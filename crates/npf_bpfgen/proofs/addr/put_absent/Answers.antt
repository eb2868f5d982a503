use Rattle.std.proofs.{Common.{◌≡◌, ℕ, List, ◌∷◌, ◌+◌, ◌-◌, ◌<◌, length, drop, get_or, sym, ap, subst, arith}, Math.Seq.drop-length}
use Rattle.std.specs.{List.{list_any, sum_by}, Prelude.not}
use Rattle.npf_bpf.specs.declared.insn.Insn.{Insn}
use Rattle.npf_bpfgen.specs.{ProgramLength.item_length, Endpoint.address_of, Instruction.return_number}
use Rattle.npf_model.specs.{declared.ends.AddrItem.AddrItem, Describes.item_has}
use Rattle.npf_bpfgen.{specs.{Premise.{BranchesOnPacket, GuardsPacket}, Tail.Extends}, proofs.AddrLemmas.{absent_more, none_absent}}
use Rattle.npf_bpfgen.proofs.TailLemmas.{counted, unchanged}
use Rattle.npf_bpfgen.proofs.addr.put_absent.Goals as goal

pub loop-left-init : goal.loop-left-init
loop-left-init c =
    let items = c.args.items.now in
    let old = c.args.tail.now in
    record {
      left = omega arith;
      front = counted old old 1 0 _ (unchanged old) (ap (λ (xs : List AddrItem). sum_by item_length xs) (sym (drop-length items)));
      value = none_absent c.args.endpoint items old;
    }

pub loop-left-preserved : goal.loop-left-preserved
loop-left-preserved c =
    let items = c.args.items.now in
    let left : ℕ = c.loop-left.left - 1 in
    let item : AddrItem = c.index-items-left.result in
    let mid = c.put.new.self in
    let new = c.put_item.new.tail in
    let next : c.loop-left.left ≡ left + 1 = omega arith in
    let within : left < length items = omega arith in
    let is : mid ≡ return_number 0 ∷ c.loop-left.tail = rw (c.in_ok-put.ensures) in
    let front = subst (λ (code : List Insn). Extends (item_length (get_or items left item) - 1) 2 code new) is
    (subst (λ (i : AddrItem). Extends (item_length i - 1) 2 mid new) c.index-items-left.is c.in_ok-put_item.ensures.front) in
    let branches = subst (λ (code : List Insn). BranchesOnPacket (λ tables facts. item_has tables (address_of c.args.endpoint facts) (get_or items left item)) code new) is
    (subst (λ (i : AddrItem). BranchesOnPacket (λ tables facts. item_has tables (address_of c.args.endpoint facts) i) mid new) c.index-items-left.is c.in_ok-put_item.ensures.value) in
    let both = absent_more c.args.endpoint items left c.loop-left.left item c.args.tail.now c.loop-left.tail new next within
    c.loop-left.invariant.front c.loop-left.invariant.value front branches in
    record { left = omega arith; front = both.0; value = both.1 }

pub returns-clause-front : goal.returns-clause-front
returns-clause-front c =
    let done : c.loop-left.left ≡ 0 = omega arith in
    subst (λ (n : ℕ). Extends (sum_by item_length (drop n c.args.items.now)) 1 c.args.tail.now c.loop-left.tail) done c.loop-left.invariant.front

pub returns-clause-value : goal.returns-clause-value
returns-clause-value c =
    let done : c.loop-left.left ≡ 0 = omega arith in
    subst (λ (n : ℕ). GuardsPacket (λ tables facts. not (list_any (item_has tables (address_of c.args.endpoint facts))
    (drop n c.args.items.now))) c.args.tail.now c.loop-left.tail) done c.loop-left.invariant.value
