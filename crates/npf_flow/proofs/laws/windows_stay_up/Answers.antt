use Rattle.npf_flow.{specs.{Flows.opening_flow, Run.flow_after}, proofs.{FlowLemmas.{quiet_opening, up_next}, RunLemmas.quiet_after}}
use Rattle.npf_flow.proofs.laws.windows_stay_up.Goals as goal

pub returns-clause-quiet : goal.returns-clause-quiet
returns-clause-quiet c = λ arg settings opener there back action packets.
    quiet_after c.maxwin_never_falls.ensures.step (opening_flow arg settings opener there back action) packets
    (quiet_opening c.maxwin_never_falls.ensures.opening settings.strict arg.seg)

pub returns-clause-packet : goal.returns-clause-packet
returns-clause-packet c = λ arg settings opener there back action packets way next.
    let opened = opening_flow arg settings opener there back action in
    let quiet = quiet_after c.maxwin_never_falls.ensures.step opened packets (quiet_opening c.maxwin_never_falls.ensures.opening settings.strict arg.seg) in
    up_next c.maxwin_never_falls.ensures.all (flow_after opened packets) way next quiet
