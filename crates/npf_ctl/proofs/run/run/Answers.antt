use Rattle.std.proofs.Common.{rules, ◌≡◌, ◌∙◌, List, Err, IfSome, OnOk, inl, inr, refl, sym, ap, subst}
use Rattle.npf_types.specs.declared.name.Name.{Name}
use Rattle.npf_config.proofs.TableLemmas.{reads_after}
use Rattle.npf_connections.proofs.SaidLemmas.{later_more}
use Rattle.npf_ctl_input.{proofs.AroundLemmas.{around_first, around_next}, specs.Unless.IfTold}
use Rattle.npf_ctl_messages.specs.declared.fault.CommandFault.TheVariants.{NoMemory}
use Rattle.npf_ctl_prepare.specs.{Prepares.RunPlan, View.run_plan_of}
use Rattle.npf_ctl_saved.specs.Loads.{BeginsLoaded, FailsLoad, interface_names}
use Rattle.npf_ctl_words.specs.CommandLine.{given_text}
use Rattle.npf_ctl.specs.{Faults.{LeavesFiles, MeetsFault}, Run.{IsSavedTo, moment}}
use Rattle.npf_ctl.proofs.FileLemmas.{around_work, keeps_by, keeps_on, nothing_put, only_read, read_on, read_on_through, same_keeps}
use Rattle.npf_ctl.proofs.{ReadyLemmas.{later_than_new, ready}, RunLemmas.{run_unfollowed, run_unloaded, run_unprepared, saving_ends}}
use Rattle.npf_ctl.proofs.run.run.Goals as goal

pub returns-in_err-prepared-clause-ends : goal.returns-in_err-prepared-clause-ends
returns-in_err-prepared-clause-ends g c =
    let first = g.F.Files.moment c.args.files.now in
    let last = g.F.Files.moment c.prepare_run.new.files in
    let out = g.O.Sink.moment c.args.out.now in
    let pass = g.C.Connections.view c.args.pass.now in
    let fault = c.in_err-prepared.field-0.0 in
    let same : c.from_residual.result ≡ Err fault = search rules in
    rw same (λ texts said. run_unprepared texts (moment first out pass) (moment last out pass) c.args.words said
    (record { put = nothing_put out; files = only_read first last c.prepare_run.ensures.reads; idle = refl }) fault
    (rw c.tap_said.ensures at (c.in_err-prepared.ensures.comes first last (around_work first last last (read_on last)))))

pub returns-in_err-interfaces-clause-ends : goal.returns-in_err-interfaces-clause-ends
returns-in_err-interfaces-clause-ends g c =
    let same : c.from_residual-in_err-interfaces.result ≡ Err NoMemory = search rules in
    rw same (λ texts said. MeetsFault.in_memory (inl (nothing_put (g.O.Sink.moment c.args.out.now)))
    (LeavesFiles.unchanged (only_read (g.F.Files.moment c.args.files.now) (g.F.Files.moment c.prepare_run.new.files) c.prepare_run.ensures.reads)))

pub returns-in_err-whole-clause-ends : goal.returns-in_err-whole-clause-ends
returns-in_err-whole-clause-ends g c =
    let same : c.from_residual-in_err-whole.result ≡ Err NoMemory = search rules in
    rw same (λ texts said. MeetsFault.in_memory (inl (nothing_put (g.O.Sink.moment c.args.out.now)))
    (LeavesFiles.unchanged (only_read (g.F.Files.moment c.args.files.now) (g.F.Files.moment c.prepare_run.new.files) c.prepare_run.ensures.reads)))

pub returns-in_err-load_connections-clause-ends : goal.returns-in_err-load_connections-clause-ends
returns-in_err-load_connections-clause-ends g c =
    let first = g.F.Files.moment c.args.files.now in
    let read = g.F.Files.moment c.prepare_run.new.files in
    let last = g.F.Files.moment c.load_connections.new.files in
    let out = g.O.Sink.moment c.args.out.now in
    let old = g.C.Connections.view c.args.pass.now in
    let new = g.C.Connections.view c.load_connections.new.pass in
    let reads = reads_after first read last c.prepare_run.ensures.reads c.load_connections.ensures.reads in
    let whole = around_work first last last (read_on last) in
    let fault = c.in_err-load_connections.field-0.0 in
    let same : c.from_residual-in_err-load_connections.result ≡ Err fault = search rules in
    let plan = run_plan_of c.in_ok-prepared.prepared in
    let names : c.deref.result.now ≡ interface_names plan.ifaces = c.deref.ensures.value ∙ c.in_ok-interfaces.ensures in
    let fails = subst (λ (n : List Name). IfTold (FailsLoad first last (given_text c.args.words.load) n old new) fault) names
    (c.in_err-load_connections.ensures.fails first last (around_next first first read last last whole c.prepare_run.ensures.reads)) in
    rw same (λ texts said. run_unloaded texts (moment first out old) (moment last out new) c.args.words said plan
    (rw c.tap_said.ensures at (c.in_ok-prepared.ensures.comes first last (around_first first first read last last whole c.load_connections.ensures.reads)))
    (nothing_put out) (only_read first last reads) fault fails)

pub returns-in_err-interfaces-clause-files : goal.returns-in_err-interfaces-clause-files
returns-in_err-interfaces-clause-files g c = λ texts said.
    let first = g.F.Files.moment c.args.files.now in
    let read = g.F.Files.moment c.prepare_run.new.files in
    same_keeps texts first.contents read.contents (only_read first read c.prepare_run.ensures.reads)

pub returns-in_err-whole-clause-files : goal.returns-in_err-whole-clause-files
returns-in_err-whole-clause-files g c = λ texts said.
    let first = g.F.Files.moment c.args.files.now in
    let read = g.F.Files.moment c.prepare_run.new.files in
    same_keeps texts first.contents read.contents (only_read first read c.prepare_run.ensures.reads)

pub returns-in_err-load_connections-clause-files : goal.returns-in_err-load_connections-clause-files
returns-in_err-load_connections-clause-files g c = λ texts said.
    let first = g.F.Files.moment c.args.files.now in
    let read = g.F.Files.moment c.prepare_run.new.files in
    let last = g.F.Files.moment c.load_connections.new.files in
    same_keeps texts first.contents last.contents (only_read first last (reads_after first read last c.prepare_run.ensures.reads c.load_connections.ensures.reads))

pub returns-in_err-load_connections-clause-later : goal.returns-in_err-load_connections-clause-later
returns-in_err-load_connections-clause-later g c =
    later_than_new (g.C.Connections.view c.args.pass.now) (g.C.Connections.view c.load_connections.new.pass) c.requires.fresh c.load_connections.ensures.same

pub run_prepared-requires-clause-ready : goal.run_prepared-requires-clause-ready
run_prepared-requires-clause-ready g c κs within =
    let read = g.F.Files.moment c.prepare_run.new.files in
    let last = g.F.Files.moment c.load_connections.new.files in
    ready (g.C.Connections.view c.args.pass.now) (g.C.Connections.view c.load_connections.new.pass) c.requires.fresh c.load_connections.ensures.same
    read last (given_text c.args.words.load) c.deref.result.now (c.in_ok-load_connections.ensures.begins read last (around_work read last last (read_on last)))

pub returns-in_err-run_prepared-clause-ends : goal.returns-in_err-run_prepared-clause-ends
returns-in_err-run_prepared-clause-ends g c =
    let first = g.F.Files.moment c.args.files.now in
    let read = g.F.Files.moment c.prepare_run.new.files in
    let loaded = g.F.Files.moment c.load_connections.new.files in
    let last = g.F.Files.moment c.run_prepared.new.files in
    let old = g.C.Connections.view c.args.pass.now in
    let begun = g.C.Connections.view c.load_connections.new.pass in
    let before = moment first (g.O.Sink.moment c.args.out.now) old in
    let after = moment last (g.O.Sink.moment c.run_prepared.new.out) (g.C.Connections.view c.run_prepared.new.pass) in
    let reads = reads_after first read loaded c.prepare_run.ensures.reads c.load_connections.ensures.reads in
    let whole = around_work first loaded last c.run_prepared.ensures.reads in
    let fault = c.in_err-run_prepared.field-0.0 in
    let same : c.from_residual-in_err-run_prepared.result ≡ Err fault = search rules in
    let prepared = run_plan_of c.in_ok-prepared.prepared in
    let plan = run_plan_of c.in_ok-whole.whole in
    let has_whole = c.in_ok-whole.ensures.whole in
    let ifaces : interface_names prepared.ifaces ≡ interface_names plan.ifaces = ap (λ (p : RunPlan). interface_names p.ifaces) (sym has_whole.same) in
    let names : c.deref.result.now ≡ interface_names plan.ifaces = c.deref.ensures.value ∙ c.in_ok-interfaces.ensures ∙ ifaces in
    rw same (λ texts said. run_unfollowed texts before after c.args.words said plan begun (record {
      read = prepared;
      whole = has_whole;
      prepared = rw c.tap_said.ensures at (c.in_ok-prepared.ensures.comes first last (around_first first first read loaded last whole c.load_connections.ensures.reads));
      same = c.load_connections.ensures.same;
      begins = subst (λ (n : List Name). BeginsLoaded first last (given_text c.args.words.load) n old begun) names
          (c.in_ok-load_connections.ensures.begins first last (around_next first first read loaded last whole c.prepare_run.ensures.reads));
    }) loaded reads c.run_prepared.ensures.others fault c.in_err-run_prepared.ensures.fails)

pub returns-in_err-run_prepared-clause-files : goal.returns-in_err-run_prepared-clause-files
returns-in_err-run_prepared-clause-files g c = λ texts said.
    let first = g.F.Files.moment c.args.files.now in
    let read = g.F.Files.moment c.prepare_run.new.files in
    let loaded = g.F.Files.moment c.load_connections.new.files in
    let last = g.F.Files.moment c.run_prepared.new.files in
    let reads = reads_after first read loaded c.prepare_run.ensures.reads c.load_connections.ensures.reads in
    keeps_on texts first.contents loaded.contents last.contents (same_keeps texts first.contents loaded.contents (only_read first loaded reads))
    (keeps_by texts (given_text c.args.words.output) (λ name is. record { run = c.args.words; said = said; named = inl is }) loaded.contents last.contents c.run_prepared.ensures.others)

pub returns-in_err-run_prepared-clause-later : goal.returns-in_err-run_prepared-clause-later
returns-in_err-run_prepared-clause-later g c =
    later_more (g.C.Connections.view c.args.pass.now) (g.C.Connections.view c.load_connections.new.pass) (g.C.Connections.view c.run_prepared.new.pass)
    (later_than_new (g.C.Connections.view c.args.pass.now) (g.C.Connections.view c.load_connections.new.pass) c.requires.fresh c.load_connections.ensures.same) c.run_prepared.ensures.later

pub save_connections-requires-clause-sole : goal.save_connections-requires-clause-sole
save_connections-requires-clause-sole g c κs within = c.run_prepared.ensures.later.places ∙ c.load_connections.ensures.same.places ∙ c.requires.fresh.places

pub returns-clause-ends : goal.returns-clause-ends
returns-clause-ends g c = λ texts said.
    let first = g.F.Files.moment c.args.files.now in
    let read = g.F.Files.moment c.prepare_run.new.files in
    let loaded = g.F.Files.moment c.load_connections.new.files in
    let mid = g.F.Files.moment c.run_prepared.new.files in
    let last = g.F.Files.moment c.save_connections.new.files in
    let old = g.C.Connections.view c.args.pass.now in
    let begun = g.C.Connections.view c.load_connections.new.pass in
    let before = moment first (g.O.Sink.moment c.args.out.now) old in
    let after = moment last (g.O.Sink.moment c.run_prepared.new.out) (g.C.Connections.view c.run_prepared.new.pass) in
    let reads = reads_after first read loaded c.prepare_run.ensures.reads c.load_connections.ensures.reads in
    let whole = around_work first loaded last (read_on_through loaded mid last c.run_prepared.ensures.reads c.save_connections.ensures.reads) in
    let prepared = run_plan_of c.in_ok-prepared.prepared in
    let plan = run_plan_of c.in_ok-whole.whole in
    let has_whole = c.in_ok-whole.ensures.whole in
    let ifaces : interface_names prepared.ifaces ≡ interface_names plan.ifaces = ap (λ (p : RunPlan). interface_names p.ifaces) (sym has_whole.same) in
    let names : c.deref.result.now ≡ interface_names plan.ifaces = c.deref.ensures.value ∙ c.in_ok-interfaces.ensures ∙ ifaces in
    let again : c.deref-2.result.now ≡ interface_names plan.ifaces = c.deref-2.ensures.value ∙ c.in_ok-interfaces.ensures ∙ ifaces in
    let saved = subst (λ (n : List Name). OnOk c.save_connections.result (IfSome (given_text c.args.words.save) (IsSavedTo last (g.C.Connections.view c.run_prepared.new.pass) n))) again
    c.save_connections.ensures.saved in
    rw c.save_connections.ensures.same
    (saving_ends texts before after c.args.words said plan begun (record {
      read = prepared;
      whole = has_whole;
      prepared = rw c.tap_said.ensures at (c.in_ok-prepared.ensures.comes first last (around_first first first read loaded last whole c.load_connections.ensures.reads));
      same = c.load_connections.ensures.same;
      begins = subst (λ (n : List Name). BeginsLoaded first last (given_text c.args.words.load) n old begun) names
          (c.in_ok-load_connections.ensures.begins first last (around_next first first read loaded last whole c.prepare_run.ensures.reads));
    }) loaded mid reads c.in_ok-run_prepared.ensures.faultless c.run_prepared.ensures.others c.in_ok-run_prepared.ensures.done
    c.save_connections.ensures.others c.save_connections.result saved c.save_connections.ensures.fails)

pub returns-clause-files : goal.returns-clause-files
returns-clause-files g c = λ texts said.
    let first = g.F.Files.moment c.args.files.now in
    let read = g.F.Files.moment c.prepare_run.new.files in
    let loaded = g.F.Files.moment c.load_connections.new.files in
    let mid = g.F.Files.moment c.run_prepared.new.files in
    let last = g.F.Files.moment c.save_connections.new.files in
    let reads = reads_after first read loaded c.prepare_run.ensures.reads c.load_connections.ensures.reads in
    keeps_on texts first.contents mid.contents last.contents
    (keeps_on texts first.contents loaded.contents mid.contents (same_keeps texts first.contents loaded.contents (only_read first loaded reads))
    (keeps_by texts (given_text c.args.words.output) (λ name is. record { run = c.args.words; said = said; named = inl is }) loaded.contents mid.contents c.run_prepared.ensures.others))
    (keeps_by texts (given_text c.args.words.save) (λ name is. record { run = c.args.words; said = said; named = inr is }) mid.contents last.contents c.save_connections.ensures.others)

pub returns-clause-later : goal.returns-clause-later
returns-clause-later g c =
    rw c.save_connections.ensures.same
    (later_more (g.C.Connections.view c.args.pass.now) (g.C.Connections.view c.load_connections.new.pass) (g.C.Connections.view c.run_prepared.new.pass)
    (later_than_new (g.C.Connections.view c.args.pass.now) (g.C.Connections.view c.load_connections.new.pass) c.requires.fresh c.load_connections.ensures.same) c.run_prepared.ensures.later)
