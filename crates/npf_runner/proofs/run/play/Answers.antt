use Rattle.std.proofs.Common.{rules, ◌≡◌, ◌<◌, ◌≤◌, ◌+◌, [], ◌∷◌, ◌++◌, All, take, drop, get_or, length, vec_len, refl, sym, ap, subst, ◌∙◌, arith}
use Rattle.std.proofs.lemmas.List.{append_assoc, append-nil, length-drop, nil_from_length, Elements.All-drop}
use Rattle.npf_traffic.{proofs.PhaseLemmas.packets_in-cons, specs.{Phases.{PhasesPublishFrom, packets_in, published_by}, Packet.IsShortPacket}}
use Rattle.npf_engine.specs.Handles.{configurations}
use Rattle.npf_runner.specs.{Job.{Handled, numbered_from}, Played.{handled, outcomes_of, outputs_of}, Plays.PlaysPhases, Phase.{RunsPhase, RunsPhases}}
use Rattle.npf_runner.proofs.{EngineLemmas.{says_own, tells_in_longer}, JobLemmas.{phase_ordered, phases_from, numbered_length, published_below}}
use Rattle.npf_runner.proofs.{PlayedLemmas.{handled_more, more_length, outcomes_of-handled, outputs_of-handled}, RunLemmas.{left_length, no_dead_more, plays}}
use Rattle.npf_connections.proofs.SaidLemmas.{later_more}
use Rattle.npf_runner.proofs.run.play.Goals as goal

pub run_phase-requires-clause-numbers : goal.run_phase-requires-clause-numbers
run_phase-requires-clause-numbers g c lifetimes outlives =
    let phases = c.args.phases.now in
    let i = c.loop-phase.phase-index in
    let phase = c.phase-item.result in
    let last = c.loop-phase.last in
    let count = length c.args.configs.now in
    let inv = c.loop-phase.invariant in
    let at : phase ≡ get_or phases i phase = search rules in
    let ordered = phase_ordered count last phases i phase (search rules) at inv.8 in
    subst (λ cs. last + published_by cs < count) (sym c.as_slice-commands.ensures) (published_below count last phase.commands ordered.0 inv.7)

pub overflow_add-last : goal.overflow_add-last
overflow_add-last g c =
    let phases = c.args.phases.now in
    let i = c.loop-phase.phase-index in
    let phase = c.phase-item.result in
    let last = c.loop-phase.last in
    let count = length c.args.configs.now in
    let inv = c.loop-phase.invariant in
    let at : phase ≡ get_or phases i phase = search rules in
    let ordered = phase_ordered count last phases i phase (search rules) at inv.8 in
    let counted : c.count_published.result ≡ published_by phase.commands = c.count_published.ensures ∙ ap published_by c.as_slice-commands.ensures in
    let all : last + c.count_published.result < count = subst (λ n. last + n < count) (sym counted) (published_below count last phase.commands ordered.0 inv.7) in
    search rules

pub loop-phase-preserved : goal.loop-phase-preserved
loop-phase-preserved g c =
    let V = g.C.Connections.view in
    let phases = c.args.phases.now in
    let i = c.loop-phase.phase-index in
    let phase = c.phase-item.result in
    let after = drop (i + 1) phases in
    let rest = c.loop-phase.left.items in
    let first = c.loop-phase.first in
    let last = c.loop-phase.last in
    let count = length c.args.configs.now in
    let inv = c.loop-phase.invariant in
    let low : i < length phases = search rules in
    let at : phase ≡ get_or phases i phase = search rules in
    let dropped = phases_from phases i phase low at in
    let sums : packets_in (drop i phases) ≡ phase.packets + packets_in after = ap packets_in dropped ∙ packets_in-cons phase after in
    let left = inv.4 in
    let enough : phase.packets ≤ length rest = omega (arith, sums, left) in
    let commands = c.as_slice-commands.result.now in
    let same : commands ≡ phase.commands = c.as_slice-commands.ensures in
    let ordered = phase_ordered count last phases i phase low at inv.8 in
    let below : last + published_by phase.commands < count = published_below count last phase.commands ordered.0 inv.7 in
    let configs = configurations c.args.configs.now in
    let back = c.run_phase.ensures.later in
    let ran = c.in_ok-all.ensures.runs in
    let was = c.loop-phase.all in
    let now = c.in_ok-all.all in
    let before = handled was.outcomes.items was.packets.items in
    let rest_is : c.next_packets.new.left.items ≡ drop phase.packets rest = c.in_ok-packets.ensures.left in
    let parts = left_length phase.packets rest enough in
    let fewer : phase.packets + length c.next_packets.new.left.items ≡ length rest = ap (λ z. phase.packets + length z) rest_is ∙ parts in
    let counted : c.count_published.result ≡ published_by phase.commands = c.count_published.ensures ∙ ap published_by same in
    let all = inv.5 in
    let some = inv.6 in
    let here : length ran.0 ≡ phase.packets = ran.3.gathered.count ∙ (sym ran.3.dealt.count ∙ (numbered_length first c.in_ok-packets.packets.items ∙ search rules)) in
    let come : vec_len now.outcomes ≡ vec_len was.outcomes + length ran.0 = more_length was.outcomes now.outcomes (λ (done : Handled). done.outcome) ran.0 ran.1 in
    let sent : vec_len now.packets ≡ vec_len was.packets + length ran.0 = more_length was.packets now.packets (λ (done : Handled). done.packet) ran.0 ran.2 in
    let grown = handled_more was.outcomes.items now.outcomes.items was.packets.items now.packets.items ran.0 (search rules) ran.1 ran.2 in
    let capacity = c.in_ok-all.ensures.outcomes_capacity in
    let capacity' = c.in_ok-all.ensures.packets_capacity in
    let same_length = inv.10 in
    let room = inv.11 in
    let room' = inv.12 in
    let ran_here : RunsPhase V configs c.args.workers c.args.spread (V c.loop-phase.pass) (V c.run_phase.new.pass) last phase.commands (numbered_from first (take phase.packets rest)) ran.0 =
    subst (λ ps. RunsPhase V configs c.args.workers c.args.spread (V c.loop-phase.pass) (V c.run_phase.new.pass) last phase.commands (numbered_from first ps) ran.0) c.in_ok-packets.ensures.packets
    (subst (λ cs. RunsPhase V configs c.args.workers c.args.spread (V c.loop-phase.pass) (V c.run_phase.new.pass) last cs (numbered_from first c.in_ok-packets.packets.items) ran.0) same ran.3) in (
      c.run_phase.ensures.out,
      back.places ∙ inv.1,
      later_more (V c.args.pass.now) (V c.loop-phase.pass) (V c.run_phase.new.pass) inv.2 back,
      no_dead_more (V c.args.pass.now) (V c.loop-phase.pass) (V c.run_phase.new.pass) inv.3 c.run_phase.ensures.clean,
      omega (arith, sums, left, fewer),
      omega (arith, all, fewer),
      omega (arith, some),
      subst (λ n. last + n < count) (sym counted) below,
      subst (λ n. PhasesPublishFrom count (last + n) after) (sym counted) ordered.1,
      subst (λ z. All IsShortPacket z) (sym rest_is) (All-drop IsShortPacket phase.packets rest inv.9),
      omega (arith, same_length, come, sent),
      omega (arith, come, here, capacity, room, fewer),
      omega (arith, sent, here, capacity', room', fewer),
      (λ new dones runs.
          let runs' = subst (λ z. RunsPhases V configs c.args.workers c.args.spread (V c.run_phase.new.pass) new (first + phase.packets) (last + published_by phase.commands) after z dones) rest_is
          (subst (λ n. RunsPhases V configs c.args.workers c.args.spread (V c.run_phase.new.pass) new (first + phase.packets) (last + n) after c.next_packets.new.left.items dones) counted runs) in
          let whole : RunsPhases V configs c.args.workers c.args.spread (V c.loop-phase.pass) new first last (phase ∷ after) rest (ran.0 ++ dones) =
          (V c.run_phase.new.pass, ran.0, dones, refl, back, c.run_phase.ensures.out.legal, ran_here, runs') in
          subst (λ z. RunsPhases V configs c.args.workers c.args.spread (V c.args.pass.now) new 1 0 phases c.args.packets.items z)
          (sym (append_assoc before ran.0 dones) ∙ ap (λ z. z ++ dones) (sym grown))
          (inv.13 new (ran.0 ++ dones) (subst (λ z. RunsPhases V configs c.args.workers c.args.spread (V c.loop-phase.pass) new first last z rest (ran.0 ++ dones)) (sym dropped) whole))),
    )

pub returns-clause-plays : goal.returns-clause-plays
returns-clause-plays g c =
    let V = g.C.Connections.view in
    let configs = configurations c.args.configs.now in
    let inv = c.loop-phase.invariant in
    let phases = c.args.phases.now in
    let i = c.loop-phase.phase-index in
    let outcomes = c.loop-phase.all.outcomes.items in
    let packets = c.loop-phase.all.packets.items in
    let dones = handled outcomes packets in
    let far : length phases ≤ i = search rules in
    let none : drop i phases ≡ [] = nil_from_length (drop i phases) (omega (arith, length-drop i phases, far)) in
    let left = inv.4 in
    let empty : c.loop-phase.left.items ≡ [] = nil_from_length c.loop-phase.left.items (sym left ∙ ap packets_in none) in
    let done : RunsPhases V configs c.args.workers c.args.spread (V c.loop-phase.pass) (V c.loop-phase.pass) c.loop-phase.first c.loop-phase.last (drop i phases) c.loop-phase.left.items [] =
    subst (λ z. RunsPhases V configs c.args.workers c.args.spread (V c.loop-phase.pass) (V c.loop-phase.pass) c.loop-phase.first c.loop-phase.last z c.loop-phase.left.items [])
    (sym none) (refl, empty, refl) in
    let runs = subst (λ z. RunsPhases V configs c.args.workers c.args.spread (V c.args.pass.now) (V c.loop-phase.pass) 1 0 phases c.args.packets.items z) (append-nil dones)
    (inv.13 (V c.loop-phase.pass) [] done) in
    let whole = plays says_own tells_in_longer V configs c.args.workers c.args.spread (V c.args.pass.now) (V c.loop-phase.pass) phases c.args.packets.items dones runs
    c.requires.places c.requires.out.legal inv.0.legal c.requires.sum c.requires.unnumbered in
    let come : c.of_vec.result ≡ outcomes_of dones = c.of_vec.ensures ∙ sym (outcomes_of-handled outcomes packets (search rules)) in
    let sent : c.of_vec-2.result ≡ outputs_of dones = c.of_vec-2.ensures ∙ sym (outputs_of-handled outcomes packets (search rules)) in
    subst (λ ps. PlaysPhases configs c.args.workers c.args.spread (V c.args.pass.now) (V c.loop-phase.pass) phases c.args.packets.items ps c.of_vec.result) (sym sent)
    (subst (λ os. PlaysPhases configs c.args.workers c.args.spread (V c.args.pass.now) (V c.loop-phase.pass) phases c.args.packets.items (outputs_of dones) os) (sym come) whole)

pub returns-in_err-all-clause-clean : goal.returns-in_err-all-clause-clean
returns-in_err-all-clause-clean g c =
    let V = g.C.Connections.view in
    no_dead_more (V c.args.pass.now) (V c.loop-phase.pass) (V c.run_phase.new.pass) c.loop-phase.invariant.3 c.run_phase.ensures.clean
