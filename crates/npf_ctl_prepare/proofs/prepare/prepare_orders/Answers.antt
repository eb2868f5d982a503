use Rattle.std.proofs.Common.{◌≡◌, ◌+◌, ◌∙◌, ℕ, Err, List, ap, length, map, rules, subst, sym}
use Rattle.npf_ctl_input.proofs.AroundLemmas.{around_first, around_next}
use Rattle.npf_ruleset.specs.Configuration.{configuration}
use Rattle.npf_ctl_arrivals.specs.Gathering.{gathered_so_far}
use Rattle.npf_traffic.specs.{declared.{packet.Packet.Packet, phase.Phase.Phase}, Phases.{AreInOrder, packets_in}}
use Rattle.npf_ctl_script.specs.declared.script.ScriptLine.{ScriptLine}
use Rattle.npf_ctl_schedule.specs.Schedule.{changes_in, phases_of, unnumbered}
use Rattle.npf_ctl_prepare.{specs.View.source_ordered, proofs.{AroundLemmas.reads_on, LineLemmas.one_line}}
use Rattle.npf_ctl_prepare.proofs.PrepareLemmas.{captures_end, limits_end, making_end, planned_at_end, schedule_ends}
use Rattle.npf_ctl_prepare.proofs.prepare.prepare_orders.Goals as goal

pub returns-in_err-ifaces-clause-comes : goal.returns-in_err-ifaces-clause-comes
returns-in_err-ifaces-clause-comes g c =
    let fault = c.in_err-ifaces.field-0.0 in
    let same : c.from_residual.result ≡ Err fault = search rules in
    rw same (λ before after around. limits_end before after c.args.orders.tap c.args.orders.every c.args.script.now c.args.given.list (configuration c.args.first)
    (source_ordered c.args.orders) c.args.orders.lines
    c.requires.lines fault (rw c.as_slice-lines.ensures at c.in_err-ifaces.ensures.comes))

pub gather_captures-requires-clause-one : goal.gather_captures-requires-clause-one
gather_captures-requires-clause-one g c = rw c.as_slice-lines.ensures (one_line c.args.script.now c.args.orders c.requires.lines)

pub returns-in_err-arrivals-clause-comes : goal.returns-in_err-arrivals-clause-comes
returns-in_err-arrivals-clause-comes g c =
    let fault = c.in_err-arrivals.field-0.0 in
    let same : c.from_residual-in_err-arrivals.result ≡ Err fault = search rules in
    rw same (λ before after around. captures_end before after c.args.orders.tap c.args.orders.every c.args.script.now c.args.given.list (configuration c.args.first)
    (source_ordered c.args.orders) c.args.orders.lines
    c.requires.lines c.in_ok-ifaces.ifaces.list (rw c.as_slice-lines.ensures at c.in_ok-ifaces.ensures.comes) fault
    (rw c.as_slice-lines.ensures at c.in_err-arrivals.ensures.comes before after around))

pub returns-in_err-configs-clause-comes : goal.returns-in_err-configs-clause-comes
returns-in_err-configs-clause-comes g c =
    let fault = c.in_err-configs.field-0.0 in
    let same : c.from_residual-in_err-configs.result ≡ Err fault = search rules in
    let start = g.F.Files.moment c.args.files.now in
    let one = g.F.Files.moment c.gather_captures.new.files in
    let two = g.F.Files.moment c.make_configurations.new.files in
    rw same (λ before after around. making_end before after c.args.orders.tap c.args.orders.every c.args.script.now c.args.given.list (configuration c.args.first)
    (source_ordered c.args.orders) c.args.orders.lines
    c.requires.lines c.in_ok-ifaces.ifaces.list (rw c.as_slice-lines.ensures at c.in_ok-ifaces.ensures.comes) (gathered_so_far c.in_ok-arrivals.arrivals)
    (rw c.as_slice-lines.ensures at c.in_ok-arrivals.ensures.comes before after (around_first before start one two after around c.make_configurations.ensures.reads))
    (configuration c.numbered-first.result) c.numbered-first.ensures.value fault
    (rw c.as_slice-lines.ensures at c.in_err-configs.ensures.comes before after (around_next before start one two after around c.gather_captures.ensures.reads)))

pub returns-in_err-configs-clause-reads : goal.returns-in_err-configs-clause-reads
returns-in_err-configs-clause-reads g c =
    let moment = g.F.Files.moment in
    reads_on (moment c.args.files.now) (moment c.gather_captures.new.files) (moment c.make_configurations.new.files) c.gather_captures.ensures.reads c.make_configurations.ensures.reads

pub returns-in_err-packets-clause-reads : goal.returns-in_err-packets-clause-reads
returns-in_err-packets-clause-reads g c =
    let moment = g.F.Files.moment in
    reads_on (moment c.args.files.now) (moment c.gather_captures.new.files) (moment c.make_configurations.new.files) c.gather_captures.ensures.reads c.make_configurations.ensures.reads

pub returns-in_err-phases-clause-reads : goal.returns-in_err-phases-clause-reads
returns-in_err-phases-clause-reads g c =
    let moment = g.F.Files.moment in
    reads_on (moment c.args.files.now) (moment c.gather_captures.new.files) (moment c.make_configurations.new.files) c.gather_captures.ensures.reads c.make_configurations.ensures.reads

pub returns-clause-reads : goal.returns-clause-reads
returns-clause-reads g c =
    let moment = g.F.Files.moment in
    reads_on (moment c.args.files.now) (moment c.gather_captures.new.files) (moment c.make_configurations.new.files) c.gather_captures.ensures.reads c.make_configurations.ensures.reads

pub returns-in_err-phases-clause-comes : goal.returns-in_err-phases-clause-comes
returns-in_err-phases-clause-comes g c =
    let fault = c.in_err-phases.field-0.0 in
    let same : c.from_residual-in_err-phases.result ≡ Err fault = search rules in
    let start = g.F.Files.moment c.args.files.now in
    let one = g.F.Files.moment c.gather_captures.new.files in
    let two = g.F.Files.moment c.make_configurations.new.files in
    rw same (λ before after around. schedule_ends before after c.args.orders.tap c.args.orders.every c.args.script.now c.args.given.list (configuration c.args.first)
    (source_ordered c.args.orders) c.args.orders.lines c.requires.lines c.in_ok-ifaces.ifaces.list (rw c.as_slice-lines.ensures at c.in_ok-ifaces.ensures.comes)
    (gathered_so_far c.in_ok-arrivals.arrivals)
    (rw c.as_slice-lines.ensures at c.in_ok-arrivals.ensures.comes before after (around_first before start one two after around c.make_configurations.ensures.reads))
    (configuration c.numbered-first.result) c.numbered-first.ensures.value (map configuration c.in_ok-configs.configs.items)
    (rw c.as_slice-lines.ensures at c.in_ok-configs.ensures.comes before after (around_next before start one two after around c.gather_captures.ensures.reads))
    c.in_ok-packets.packets.items c.in_ok-packets.ensures.sorted fault (rw (c.as_slice-lines.ensures, c.as_slice.ensures.value) at c.in_err-phases.ensures.comes))

pub returns-clause-comes : goal.returns-clause-comes
returns-clause-comes g c =
    let start = g.F.Files.moment c.args.files.now in
    let one = g.F.Files.moment c.gather_captures.new.files in
    let two = g.F.Files.moment c.make_configurations.new.files in
    λ before after around. planned_at_end before after c.args.orders.tap c.args.orders.every c.args.script.now c.args.given.list (configuration c.args.first)
    (source_ordered c.args.orders) c.args.orders.lines c.requires.lines c.in_ok-ifaces.ifaces.list (rw c.as_slice-lines.ensures at c.in_ok-ifaces.ensures.comes)
    (gathered_so_far c.in_ok-arrivals.arrivals)
    (rw c.as_slice-lines.ensures at c.in_ok-arrivals.ensures.comes before after (around_first before start one two after around c.make_configurations.ensures.reads))
    (configuration c.numbered-first.result) c.numbered-first.ensures.value (map configuration c.in_ok-configs.configs.items)
    (rw c.as_slice-lines.ensures at c.in_ok-configs.ensures.comes before after (around_next before start one two after around c.gather_captures.ensures.reads))
    c.in_ok-packets.packets.items c.in_ok-packets.ensures.sorted c.in_ok-phases.phases.items (rw (c.as_slice-lines.ensures, c.as_slice.ensures.value) at c.in_ok-phases.ensures.comes)

pub returns-clause-playable : goal.returns-clause-playable
returns-clause-playable g c = record {
  short = c.in_ok-packets.ensures.short;
  phased = c.in_ok-phases.ensures.phased ∙ ap length c.as_slice.ensures.value;
  published = subst (λ n. AreInOrder n c.in_ok-phases.phases.items) (sym c.in_ok-configs.ensures.count) c.in_ok-phases.ensures.published;
  crosses = c.in_ok-packets.ensures.crosses (length c.in_ok-ifaces.ifaces.list) c.in_ok-arrivals.ensures.crosses;
  timed = c.in_ok-packets.ensures.timed;
  count = c.in_ok-packets.ensures.count;
}
