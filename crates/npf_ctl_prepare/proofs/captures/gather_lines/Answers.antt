use Rattle.std.proofs.{Common.{◌≡◌, ◌+◌, ℕ, All, Err, List, length, drop, rules, subst, sym}, lemmas.List.{drop_all, Elements.All-nil}}
use Rattle.npf_ctl_script.specs.declared.script.ScriptLine.{ScriptLine}
use Rattle.npf_ctl_arrivals.specs.{Arrivals.Gathered, Gathering.gathered_so_far, Within.CrossesOneOf}
use Rattle.npf_ctl_input.specs.Source.{Scripted}
use Rattle.npf_ctl_prepare.proofs.{GatherLemmas.{GatheredSoFar, all_gathered, gathered_more, gathered_none, gathering_stops}, LineLemmas.line_and_rest}
use Rattle.npf_ctl_prepare.proofs.captures.gather_lines.Goals as goal

pub loop-line-init : goal.loop-line-init
loop-line-init g c =
    let source = Scripted c.args.lines.now in
    let start = g.F.Files.moment c.args.files.now in
    let count = length c.args.ifaces.now.list in
    record {
      so_far = rw c.new-arrivals.ensures.empty (gathered_none source c.args.ifaces.now.list c.args.lines.now start);
      within = c.new-arrivals.ensures.within;
      crosses = subst (λ (gathered : Gathered). All (CrossesOneOf count) gathered.packets) (sym c.new-arrivals.ensures.empty) (All-nil (CrossesOneOf count));
    }

pub returns-in_err-gather_line-clause-comes : goal.returns-in_err-gather_line-clause-comes
returns-in_err-gather_line-clause-comes g c =
    let fault = c.in_err-gather_line.field-0.0 in
    let same : c.from_residual.result ≡ Err fault = search rules in
    let moment = g.F.Files.moment in
    let ifaces = c.args.ifaces.now.list in
    let lines = c.args.lines.now in
    let i = c.loop-line.line-index in
    let source = Scripted lines in
    let so_far = subst (λ (rest : List (ℕ × ScriptLine)). GatheredSoFar source ifaces lines (moment c.args.files.now) (moment c.loop-line.files) rest (gathered_so_far c.loop-line.arrivals))
    (line_and_rest lines i c.line-item.result c.loop-line-test.true c.line-item.is) c.loop-line.invariant.so_far in
    rw same (gathering_stops source ifaces lines (moment c.args.files.now) (moment c.loop-line.files) c.line-item.result (drop (i + 1) lines) (gathered_so_far c.loop-line.arrivals) so_far
    (moment c.gather_line.new.files) c.gather_line.ensures.reads fault (λ before after around. c.in_err-gather_line.ensures.comes before after lines around))

pub loop-line-preserved : goal.loop-line-preserved
loop-line-preserved g c =
    let moment = g.F.Files.moment in
    let ifaces = c.args.ifaces.now.list in
    let lines = c.args.lines.now in
    let i = c.loop-line.line-index in
    let source = Scripted lines in
    let so_far = subst (λ (rest : List (ℕ × ScriptLine)). GatheredSoFar source ifaces lines (moment c.args.files.now) (moment c.loop-line.files) rest (gathered_so_far c.loop-line.arrivals))
    (line_and_rest lines i c.line-item.result c.loop-line-test.true c.line-item.is) c.loop-line.invariant.so_far in
    record {
      so_far = gathered_more source ifaces lines (moment c.args.files.now) (moment c.loop-line.files) c.line-item.result (drop (i + 1) lines) (gathered_so_far c.loop-line.arrivals) so_far
          (moment c.gather_line.new.files) c.gather_line.ensures.reads (gathered_so_far c.gather_line.new.arrivals)
          (λ before after around. c.in_ok-gather_line.ensures.comes before after lines around) c.in_ok-gather_line.ensures.faultless;
      within = c.gather_line.ensures.within;
      crosses = c.gather_line.ensures.crosses;
    }

pub returns-clause-comes : goal.returns-clause-comes
returns-clause-comes g c =
    let moment = g.F.Files.moment in
    let ifaces = c.args.ifaces.now.list in
    let lines = c.args.lines.now in
    let source = Scripted lines in
    let so_far = subst (λ (rest : List (ℕ × ScriptLine)). GatheredSoFar source ifaces lines (moment c.args.files.now) (moment c.loop-line.files) rest (gathered_so_far c.loop-line.arrivals))
    (drop_all c.loop-line.line-index lines c.loop-line-test.false) c.loop-line.invariant.so_far in
    all_gathered source ifaces lines (moment c.args.files.now) (moment c.loop-line.files) (gathered_so_far c.loop-line.arrivals) so_far
