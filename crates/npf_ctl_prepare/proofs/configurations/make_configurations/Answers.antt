use Rattle.std.proofs.{Common.{◌≡◌, ◌+◌, ℕ, Err, List, drop, length, rules, subst}, lemmas.List.drop_all}
use Rattle.npf_config.proofs.TableLemmas.{no_reads}
use Rattle.npf_ctl_script.specs.declared.script.ScriptLine.{ScriptLine}
use Rattle.npf_ctl_input.proofs.AroundLemmas.{around_itself}
use Rattle.npf_ctl_prepare.proofs.LineLemmas.{line_and_rest}
use Rattle.npf_ctl_prepare.proofs.MakeLemmas.{MadeSoFar, all_counted, all_made, found_changeable, found_ids, made_first, made_more, making_ends}
use Rattle.npf_ctl_prepare.proofs.configurations.make_configurations.Goals as goal

pub loop-line-init : goal.loop-line-init
loop-line-init g c =
    let start = g.F.Files.moment c.args.files.now in
    record {
      so_far = rw c.in_ok-push.ensures.items (rw c.new-configs.ensures.items (made_first c.args.ifaces.now.list c.args.script.now c.args.lines.now c.args.first start c.requires.first));
    }

pub make_next-requires-clause-last : goal.make_next-requires-clause-last
make_next-requires-clause-last g c =
    let moment = g.F.Files.moment in
    let ifaces = c.args.ifaces.now.list in
    let lines = c.args.lines.now in
    let i = c.loop-line.line-index in
    let so_far = subst (λ (rest : List (ℕ × ScriptLine)). MadeSoFar ifaces c.args.script.now lines c.args.first (moment c.args.files.now) (moment c.loop-line.files) rest c.loop-line.configs.items)
    (line_and_rest lines i c.line-item.result c.loop-line-test.true c.line-item.is) c.loop-line.invariant.so_far in
    let is = rw c.as_slice-all.ensures.value at c.index-all-all.is in
    found_changeable ifaces c.args.script.now lines c.args.first (moment c.args.files.now) (moment c.loop-line.files) c.line-item.result (drop (i + 1) lines) c.loop-line.configs.items so_far
    (moment c.loop-line.files) (no_reads (moment c.loop-line.files)) c.index-all-all.result is c.requires.few

pub returns-in_err-next-clause-comes : goal.returns-in_err-next-clause-comes
returns-in_err-next-clause-comes g c =
    let fault = c.in_err-next.field-0.0 in
    let same : c.from_residual-in_err-next.result ≡ Err fault = search rules in
    let moment = g.F.Files.moment in
    let ifaces = c.args.ifaces.now.list in
    let lines = c.args.lines.now in
    let i = c.loop-line.line-index in
    let so_far = subst (λ (rest : List (ℕ × ScriptLine)). MadeSoFar ifaces c.args.script.now lines c.args.first (moment c.args.files.now) (moment c.loop-line.files) rest c.loop-line.configs.items)
    (line_and_rest lines i c.line-item.result c.loop-line-test.true c.line-item.is) c.loop-line.invariant.so_far in
    rw same (making_ends ifaces c.args.script.now lines c.args.first (moment c.args.files.now) (moment c.loop-line.files) c.line-item.result (drop (i + 1) lines) c.loop-line.configs.items so_far
    (moment c.make_next.new.files) c.make_next.ensures.reads c.index-all-all.result (rw c.as_slice-all.ensures.value at c.index-all-all.is) fault
    (λ before after around. (c.in_err-next.ensures.answers before after around).comes))

pub loop-line-preserved : goal.loop-line-preserved
loop-line-preserved g c =
    let moment = g.F.Files.moment in
    let ifaces = c.args.ifaces.now.list in
    let lines = c.args.lines.now in
    let i = c.loop-line.line-index in
    let configs = c.loop-line.configs.items in
    let so_far = subst (λ (rest : List (ℕ × ScriptLine)). MadeSoFar ifaces c.args.script.now lines c.args.first (moment c.args.files.now) (moment c.loop-line.files) rest configs)
    (line_and_rest lines i c.line-item.result c.loop-line-test.true c.line-item.is) c.loop-line.invariant.so_far in
    let ids = found_ids ifaces c.args.script.now lines c.args.first (moment c.args.files.now) (moment c.loop-line.files) c.line-item.result (drop (i + 1) lines) configs so_far
    (moment c.make_next.new.files) c.make_next.ensures.reads c.index-all-all.result (rw c.as_slice-all.ensures.value at c.index-all-all.is) in
    let itself = c.in_ok-next.ensures.answers (moment c.loop-line.files) (moment c.make_next.new.files) (around_itself (moment c.loop-line.files) (moment c.make_next.new.files)) in
    record {
      so_far = rw c.in_ok-configs.ensures
          (made_more ifaces c.args.script.now lines c.args.first (moment c.args.files.now) (moment c.loop-line.files) c.line-item.result (drop (i + 1) lines) configs so_far
          (moment c.make_next.new.files) c.make_next.ensures.reads c.index-all-all.result (rw c.as_slice-all.ensures.value at c.index-all-all.is) c.in_ok-next.ensures.faultless c.in_ok-next.next
          (λ before after around. (c.in_ok-next.ensures.answers before after around).comes) itself.makes (itself.changeable (length configs) ids));
    }

pub returns-clause-comes : goal.returns-clause-comes
returns-clause-comes g c =
    let moment = g.F.Files.moment in
    let ifaces = c.args.ifaces.now.list in
    let lines = c.args.lines.now in
    let so_far = subst (λ (rest : List (ℕ × ScriptLine)). MadeSoFar ifaces c.args.script.now lines c.args.first (moment c.args.files.now) (moment c.loop-line.files) rest c.loop-line.configs.items)
    (drop_all c.loop-line.line-index lines c.loop-line-test.false) c.loop-line.invariant.so_far in
    all_made ifaces c.args.script.now lines c.args.first (moment c.args.files.now) (moment c.loop-line.files) c.loop-line.configs.items so_far

pub returns-clause-count : goal.returns-clause-count
returns-clause-count g c =
    let moment = g.F.Files.moment in
    let ifaces = c.args.ifaces.now.list in
    let lines = c.args.lines.now in
    let so_far = subst (λ (rest : List (ℕ × ScriptLine)). MadeSoFar ifaces c.args.script.now lines c.args.first (moment c.args.files.now) (moment c.loop-line.files) rest c.loop-line.configs.items)
    (drop_all c.loop-line.line-index lines c.loop-line-test.false) c.loop-line.invariant.so_far in
    all_counted ifaces c.args.script.now lines c.args.first (moment c.args.files.now) (moment c.loop-line.files) c.loop-line.configs.items so_far
