use Rattle.std.proofs.Common.{◌≡◌, [], ◌∷◌, refl}
use Rattle.npf_bpfgen.{specs.Instruction.return_number, proofs.{HeaderLemmas.none_allowed, TailLemmas.extended}}
use Rattle.npf_bpfgen.proofs.header.put_refusal.Goals as goal

pub returns-clause-front : goal.returns-clause-front
returns-clause-front c =
    let is : c.put.new.self ≡ return_number 0 ∷ c.args.tail.now = rw (c.in_ok-put.ensures) in
    extended (return_number 0 ∷ []) c.args.tail.now c.put.new.self 1 1 is refl refl

pub returns-clause-value : goal.returns-clause-value
returns-clause-value c =
    let is : c.put.new.self ≡ return_number 0 ∷ c.args.tail.now = rw (c.in_ok-put.ensures) in
    none_allowed c.args.tail.now c.put.new.self is
