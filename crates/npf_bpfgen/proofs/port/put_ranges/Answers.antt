use Rattle.std.proofs.{Math.Seq.drop-length, Common.{◌≡◌, ℕ, List, [], ◌∷◌, ◌-◌, ◌<◌, length, drop, get_or, suc, Some, refl, sym, subst, arith}}
use Rattle.std.specs.List.{list_any}
use Rattle.npf_model.specs.Describes.{in_range}
use Rattle.npf_bpfgen.{specs.{Instruction.{if_at_least, if_greater, jump, return_number}, Tail.{Guards, GuardsNumber}}, proofs.PortLemmas.ranges_more}
use Rattle.npf_bpfgen.proofs.TailLemmas.{counted, extended, none_guards}
use Rattle.npf_bpfgen.proofs.port.put_ranges.Goals as goal

pub loop-left-init : goal.loop-left-init
loop-left-init c =
    let ranges = c.args.ranges.now in
    let old = c.args.tail.now in
    let new = c.put.new.self in
    let is : new ≡ return_number 0 ∷ old = rw (c.in_ok-put.ensures) in
    record {
      left = omega arith;
      front = counted old new 1 1 _ (extended (return_number 0 ∷ []) old new 1 1 is refl refl) (omega arith);
      value = λ p cop header number.
          subst (λ (xs : List (ℕ × ℕ)). Guards p cop header (Some number) (list_any (in_range number) xs) old new)
          (sym (drop-length ranges)) (none_guards p cop header (Some number) old new is);
    }

pub loop-left-preserved : goal.loop-left-preserved
loop-left-preserved c =
    let ranges = c.args.ranges.now in
    let left : ℕ = c.loop-left.left - 1 in
    let over : ℕ = c.len.result - c.len-behind.result in
    let next : c.loop-left.left ≡ suc left = omega arith in
    let within : left < length ranges = omega arith in
    let distance : over ≡ length c.loop-left.tail - length c.args.tail.now = omega arith in
    let is : c.put-in-loop-left.new.self ≡ if_at_least (get_or ranges left (0, 0)).0 0 2 ∷ if_greater (get_or ranges left (0, 0)).1 1 0 ∷ jump over ∷ c.loop-left.tail =
    rw (c.in_ok-put-2.ensures, c.if_at_least.ensures, c.from.ensures, c.if_greater.ensures, c.from-in-loop-left.ensures) in
    let both = ranges_more ranges left c.loop-left.left over c.args.tail.now c.loop-left.tail c.put-in-loop-left.new.self next within
    c.loop-left.invariant.front c.loop-left.invariant.value distance is in
    record { left = omega arith; front = both.0; value = both.1 }

pub returns-clause-front : goal.returns-clause-front
returns-clause-front c =
    counted c.args.tail.now c.loop-left.tail 1 _ _ c.loop-left.invariant.front (omega arith)

pub returns-clause-value : goal.returns-clause-value
returns-clause-value c =
    let done : c.loop-left.left ≡ 0 = omega arith in
    subst (λ (n : ℕ). GuardsNumber (λ port. list_any (in_range port) (drop n c.args.ranges.now)) c.args.tail.now c.loop-left.tail) done c.loop-left.invariant.value
