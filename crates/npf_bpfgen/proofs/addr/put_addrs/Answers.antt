use Rattle.std.proofs.{Common.{false, ◌≡◌, ℕ, List, [], ◌∷◌, ◌+◌, ◌-◌, ◌<◌, length, drop, get_or, Some, None, refl, sym, ap, subst, arith}, Math.Seq.drop-length}
use Rattle.std.{proofs.lemmas.List.Sums.sum_by-take-drop, specs.List.sum_by}
use Rattle.npf_bpf.specs.declared.insn.Insn.{Insn}
use Rattle.npf_bpfgen.specs.{ProgramLength.item_length, Endpoint.address_of, Instruction.{jump, return_number}}
use Rattle.npf_model.specs.{declared.ends.AddrItem.AddrItem, Describes.{fits_addrs, item_has}}
use Rattle.npf_bpfgen.{specs.{Premise.{BranchesOnPacket, GuardsPacket, header_words}, Tail.{Extends, Guards}}, proofs.AddrLemmas.items_more}
use Rattle.npf_bpfgen.proofs.TailLemmas.{counted, extended, grown, none_guards}
use Rattle.npf_bpfgen.proofs.addr.put_addrs.Goals as goal

pub loop-left-init : goal.loop-left-init
loop-left-init c =
    let items = c.args.items.now in
    let old = c.args.tail.now in
    let new = c.put.new.self in
    let is : new ≡ return_number 0 ∷ old = rw (c.in_ok-put.ensures) in
    record {
      left = omega arith;
      front = counted old new 1 1 _ (extended (return_number 0 ∷ []) old new 1 1 is refl refl) (ap (λ (xs : List AddrItem). 1 + sum_by item_length xs) (sym (drop-length items)));
      value = λ p cop tables facts seen.
          subst (λ (xs : List AddrItem). Guards p cop (header_words facts) None (fits_addrs false (Some xs) tables (address_of c.args.endpoint facts)) old new)
          (sym (drop-length items)) (none_guards p cop (header_words facts) None old new is);
    }

pub overflow_cast-over : goal.overflow_cast-over
overflow_cast-over c =
    omega (arith, grown c.args.tail.now c.loop-left.tail _ 1 c.loop-left.invariant.front, sum_by-take-drop item_length c.args.items.now c.loop-left.left)

pub loop-left-preserved : goal.loop-left-preserved
loop-left-preserved c =
    let items = c.args.items.now in
    let left : ℕ = c.loop-left.left - 1 in
    let over : ℕ = c.len.result - c.len-behind.result in
    let item : AddrItem = c.index-items-left.result in
    let mid = c.put-in-loop-left.new.self in
    let new = c.put_item.new.tail in
    let next : c.loop-left.left ≡ left + 1 = omega arith in
    let within : left < length items = omega arith in
    let distance : over ≡ length c.loop-left.tail - length c.args.tail.now = omega arith in
    let is : mid ≡ jump over ∷ c.loop-left.tail = rw (c.in_ok-put-2.ensures) in
    let front = subst (λ (code : List Insn). Extends (item_length (get_or items left item) - 1) 2 code new) is
    (subst (λ (i : AddrItem). Extends (item_length i - 1) 2 mid new) c.index-items-left.is c.in_ok-put_item.ensures.front) in
    let branches = subst (λ (code : List Insn). BranchesOnPacket (λ tables facts. item_has tables (address_of c.args.endpoint facts) (get_or items left item)) code new) is
    (subst (λ (i : AddrItem). BranchesOnPacket (λ tables facts. item_has tables (address_of c.args.endpoint facts) i) mid new) c.index-items-left.is c.in_ok-put_item.ensures.value) in
    let both = items_more c.args.endpoint items left c.loop-left.left over item c.args.tail.now c.loop-left.tail new next within
    c.loop-left.invariant.front c.loop-left.invariant.value distance front branches in
    record { left = omega arith; front = both.0; value = both.1 }

pub returns-clause-front : goal.returns-clause-front
returns-clause-front c =
    let done : c.loop-left.left ≡ 0 = omega arith in
    subst (λ (n : ℕ). Extends (1 + sum_by item_length (drop n c.args.items.now)) 1 c.args.tail.now c.loop-left.tail) done c.loop-left.invariant.front

pub returns-clause-value : goal.returns-clause-value
returns-clause-value c =
    let done : c.loop-left.left ≡ 0 = omega arith in
    subst (λ (n : ℕ). GuardsPacket (λ tables facts. fits_addrs false (Some (drop n c.args.items.now)) tables
    (address_of c.args.endpoint facts)) c.args.tail.now c.loop-left.tail) done c.loop-left.invariant.value
