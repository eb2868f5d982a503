use Rattle.std.proofs.Common.{◌-◌, ◌<◌, length, sym, ap, ◌∙◌, arith}
use Rattle.npf_bpf.{specs.{Effect.{Returns, Continues}, Value.program_value}, proofs.ValueLemmas.{Does, value-returns, value-continues, distance-within}}
use Rattle.npf_bpfvm.specs.Machine.{bpf_state}
use Rattle.npf_bpfvm.proofs.machine.run.Goals as goal

pub returns-in-Returned : goal.returns-in-Returned
returns-in-Returned g c =
    let cop = g.C.Cop.tells c.args.cop.now in
    let packet = c.args.packet.now in
    let code = c.insns-insns.result.now in
    let operation = c.operation_at-operation in
    let does : Does packet cop code c.steps.at (bpf_state c.steps.registers) operation.result
    (Returns c.in-Returned.number) = (operation.ensures.found, sym c.in-Returned.ensures) in
    let returned = value-returns packet cop code c.steps.at (bpf_state c.steps.registers)
    operation.result c.in-Returned.number does in
    sym returned ∙ c.steps.invariant.same
    ∙ ap (λ insns. program_value insns packet cop) c.insns-insns.ensures.value

pub steps-preserved : goal.steps-preserved
steps-preserved g c =
    let cop = g.C.Cop.tells c.args.cop.now in
    let packet = c.args.packet.now in
    let code = c.insns-insns.result.now in
    let operation = c.operation_at-operation in
    let distance = c.in-Onward.distance in
    let before = bpf_state c.steps.registers in
    let behind = bpf_state c.step.new.self in
    let does : Does packet cop code c.steps.at before operation.result (Continues distance behind) =
    (operation.ensures.found, sym c.in-Onward.ensures) in
    let on = value-continues packet cop code c.steps.at before operation.result distance behind does
    in
    let within : distance < length code - 1 - c.steps.at =
    distance-within packet cop operation.result before _ distance behind
    operation.ensures.allowed (sym c.in-Onward.ensures) in
    record { within = omega arith; same = sym on ∙ c.steps.invariant.same }
