use Rattle.std.proofs.Common.{◌≡◌, ℕ, List, [], ◌∷◌, ◌+◌, ap, length, subst, refl, sym, arith}
use Rattle.npf_model.specs.Describes.{fits_protocol}
use Rattle.npf_bpfgen.specs.{Instruction.{ask_header, return_number}, Premise.GuardsPacket, ProgramLength.protocols_length, Tail.IsValidEnd}
use Rattle.npf_bpfgen.proofs.{ProgramLemmas.program_is, TailLemmas.{fits_valid, grown}}
use Rattle.npf_bpfgen.proofs.program.put_rule.Goals as goal

pub put_ends-requires-clause-room : goal.put_ends-requires-clause-room
put_ends-requires-clause-room c =
    let is : c.put.new.self ≡ return_number 4294967295 ∷ [] = rw (c.in_ok-put.ensures, c.requires.empty) in
    let one : length c.put.new.self ≡ 1 = ap length is in
    omega arith

pub put_protocols-requires : goal.put_protocols-requires
put_protocols-requires c =
    let is : c.put.new.self ≡ return_number 4294967295 ∷ [] = rw (c.in_ok-put.ensures, c.requires.empty) in
    let one : length c.put.new.self ≡ 1 = ap length is in
    let protos : protocols_length c.as_slice.result.now ≡ protocols_length c.args.rule.now.protos = ap protocols_length c.as_slice.ensures in
    let to = grown c.put.new.self c.put_ends.new.tail _ 1 c.in_ok-put_ends.ensures.front in
    let from = grown c.put_ends.new.tail c.put_ends-2.new.tail _ 1 c.in_ok-put_ends-2.ensures.front in
    let icmp = grown c.put_ends-2.new.tail c.put_icmp.new.tail _ 1 c.in_ok-put_icmp.ensures.front in
    let flags = grown c.put_icmp.new.tail c.put_flags.new.tail _ 1 c.in_ok-put_flags.ensures.front in
    omega (arith, to, from, icmp, flags)

pub returns-clause-value : goal.returns-clause-value
returns-clause-value c =
    let is : c.put.new.self ≡ return_number 4294967295 ∷ [] = rw (c.in_ok-put.ensures, c.requires.empty) in
    let begins : c.put-2.new.self ≡ ask_header ∷ c.put_family.new.tail = rw (c.in_ok-put-2.ensures) in
    let protos = subst (λ (xs : List ℕ). GuardsPacket (λ tables facts. fits_protocol xs facts.proto) c.put_flags.new.tail c.put_protocols.new.tail)
    c.as_slice.ensures c.in_ok-put_protocols.ensures.value in
    program_is c.args.rule.now c.put.new.self c.put_ends.new.tail c.put_ends-2.new.tail c.put_icmp.new.tail c.put_flags.new.tail
    c.put_protocols.new.tail c.put_family.new.tail c.put-2.new.self is c.in_ok-put_ends.ensures.value c.in_ok-put_ends-2.ensures.value
    c.in_ok-put_icmp.ensures.value c.in_ok-put_flags.ensures.value protos c.in_ok-put_family.ensures.value begins

pub returns-clause-count : goal.returns-clause-count
returns-clause-count c =
    let is : c.put.new.self ≡ return_number 4294967295 ∷ [] = rw (c.in_ok-put.ensures, c.requires.empty) in
    let one : length c.put.new.self ≡ 1 = ap length is in
    let begins : c.put-2.new.self ≡ ask_header ∷ c.put_family.new.tail = rw (c.in_ok-put-2.ensures) in
    let whole : length c.put-2.new.self ≡ length c.put_family.new.tail + 1 = rw (ap length begins) (omega arith) in
    let protos : protocols_length c.as_slice.result.now ≡ protocols_length c.args.rule.now.protos = ap protocols_length c.as_slice.ensures in
    let to = grown c.put.new.self c.put_ends.new.tail _ 1 c.in_ok-put_ends.ensures.front in
    let from = grown c.put_ends.new.tail c.put_ends-2.new.tail _ 1 c.in_ok-put_ends-2.ensures.front in
    let icmp = grown c.put_ends-2.new.tail c.put_icmp.new.tail _ 1 c.in_ok-put_icmp.ensures.front in
    let flags = grown c.put_icmp.new.tail c.put_flags.new.tail _ 1 c.in_ok-put_flags.ensures.front in
    let listed = grown c.put_flags.new.tail c.put_protocols.new.tail _ 1 c.in_ok-put_protocols.ensures.front in
    let family = grown c.put_protocols.new.tail c.put_family.new.tail _ 1 c.in_ok-put_family.ensures.front in
    omega (arith, to, from, icmp, flags, listed, family)

pub returns-clause-valid : goal.returns-clause-valid
returns-clause-valid c =
    let is : c.put.new.self ≡ return_number 4294967295 ∷ [] = rw (c.in_ok-put.ensures, c.requires.empty) in
    let one : length c.put.new.self ≡ 1 = ap length is in
    let begins : c.put-2.new.self ≡ ask_header ∷ c.put_family.new.tail = rw (c.in_ok-put-2.ensures) in
    let to = grown c.put.new.self c.put_ends.new.tail _ 1 c.in_ok-put_ends.ensures.front in
    let from = grown c.put_ends.new.tail c.put_ends-2.new.tail _ 1 c.in_ok-put_ends-2.ensures.front in
    let icmp = grown c.put_ends-2.new.tail c.put_icmp.new.tail _ 1 c.in_ok-put_icmp.ensures.front in
    let flags = grown c.put_icmp.new.tail c.put_flags.new.tail _ 1 c.in_ok-put_flags.ensures.front in
    let listed = grown c.put_flags.new.tail c.put_protocols.new.tail _ 1 c.in_ok-put_protocols.ensures.front in
    let family = grown c.put_protocols.new.tail c.put_family.new.tail _ 1 c.in_ok-put_family.ensures.front in
    let v0 = subst IsValidEnd (sym is) (fits_valid (return_number 4294967295 ∷ []) [] 0 refl (omega arith) tt) in
    let v1 = c.in_ok-put_ends.ensures.front.valid (omega arith) v0 in
    let v2 = c.in_ok-put_ends-2.ensures.front.valid (omega (arith, to)) v1 in
    let v3 = c.in_ok-put_icmp.ensures.front.valid (omega (arith, to, from)) v2 in
    let v4 = c.in_ok-put_flags.ensures.front.valid (omega (arith, to, from, icmp)) v3 in
    let v5 = c.in_ok-put_protocols.ensures.front.valid (omega (arith, to, from, icmp, flags)) v4 in
    let v6 = c.in_ok-put_family.ensures.front.valid (omega (arith, to, from, icmp, flags, listed)) v5 in
    subst IsValidEnd (sym begins)
    (fits_valid (ask_header ∷ []) c.put_family.new.tail 1 refl (omega (arith, to, from, icmp, flags, listed, family)) v6)
