use Rattle.npf_ctl_words.specs.CommandLine.{word_texts}
use Rattle.npf_ctl.{specs.{Run.moment, declared.findings.Finding.TheVariants.{Nothing, Something}}, proofs.AnswerLemmas.{refuses_usage, was_done, was_kept, was_put, was_quiet, was_refused}}
use Rattle.npf_ctl.proofs.LawLemmas.{does_all, generates_all, refuses_fault}
use Rattle.npf_ctl.proofs.top.npfctl_top.Goals as goal

pub returns-clause-done : goal.returns-clause-done
returns-clause-done g c =
    let before = moment (g.F.Files.moment c.args.files.now) (g.O.Sink.moment c.args.out.now) (g.C.Connections.view c.args.pass.now) in
    let after = moment (g.F.Files.moment c.answer.new.files) (g.O.Sink.moment c.answer.new.out) (g.C.Connections.view c.answer.new.pass) in
    let old = g.E.Sink.moment c.args.err.now in
    let new = g.E.Sink.moment c.answer.new.err in
    let texts = word_texts c.args.words.now in
    was_done texts before after old new c.answer.result c.answer.ensures.answered Nothing

pub returns-clause-found : goal.returns-clause-found
returns-clause-found g c =
    let before = moment (g.F.Files.moment c.args.files.now) (g.O.Sink.moment c.args.out.now) (g.C.Connections.view c.args.pass.now) in
    let after = moment (g.F.Files.moment c.answer.new.files) (g.O.Sink.moment c.answer.new.out) (g.C.Connections.view c.answer.new.pass) in
    let old = g.E.Sink.moment c.args.err.now in
    let new = g.E.Sink.moment c.answer.new.err in
    let texts = word_texts c.args.words.now in
    was_done texts before after old new c.answer.result c.answer.ensures.answered Something

pub returns-clause-flushed : goal.returns-clause-flushed
returns-clause-flushed g c =
    let before = moment (g.F.Files.moment c.args.files.now) (g.O.Sink.moment c.args.out.now) (g.C.Connections.view c.args.pass.now) in
    let after = moment (g.F.Files.moment c.answer.new.files) (g.O.Sink.moment c.answer.new.out) (g.C.Connections.view c.answer.new.pass) in
    let old = g.E.Sink.moment c.args.err.now in
    let new = g.E.Sink.moment c.answer.new.err in
    let texts = word_texts c.args.words.now in
    λ done. (was_put texts before after old new c.answer.result c.answer.ensures.answered done).0

pub returns-clause-silent : goal.returns-clause-silent
returns-clause-silent g c =
    let before = moment (g.F.Files.moment c.args.files.now) (g.O.Sink.moment c.args.out.now) (g.C.Connections.view c.args.pass.now) in
    let after = moment (g.F.Files.moment c.answer.new.files) (g.O.Sink.moment c.answer.new.out) (g.C.Connections.view c.answer.new.pass) in
    let old = g.E.Sink.moment c.args.err.now in
    let new = g.E.Sink.moment c.answer.new.err in
    let texts = word_texts c.args.words.now in
    λ done. (was_put texts before after old new c.answer.result c.answer.ensures.answered done).1

pub returns-clause-faulted : goal.returns-clause-faulted
returns-clause-faulted g c =
    let before = moment (g.F.Files.moment c.args.files.now) (g.O.Sink.moment c.args.out.now) (g.C.Connections.view c.args.pass.now) in
    let after = moment (g.F.Files.moment c.answer.new.files) (g.O.Sink.moment c.answer.new.out) (g.C.Connections.view c.answer.new.pass) in
    let old = g.E.Sink.moment c.args.err.now in
    let new = g.E.Sink.moment c.answer.new.err in
    let texts = word_texts c.args.words.now in
    was_refused texts before after old new c.answer.result c.answer.ensures.answered

pub returns-clause-refuses_words : goal.returns-clause-refuses_words
returns-clause-refuses_words g c =
    let before = moment (g.F.Files.moment c.args.files.now) (g.O.Sink.moment c.args.out.now) (g.C.Connections.view c.args.pass.now) in
    let after = moment (g.F.Files.moment c.answer.new.files) (g.O.Sink.moment c.answer.new.out) (g.C.Connections.view c.answer.new.pass) in
    let old = g.E.Sink.moment c.args.err.now in
    let new = g.E.Sink.moment c.answer.new.err in
    let texts = word_texts c.args.words.now in
    λ not. refuses_usage texts before after old new c.answer.result not c.answer.ensures.answered

pub returns-clause-refuses : goal.returns-clause-refuses
returns-clause-refuses g c =
    let before = moment (g.F.Files.moment c.args.files.now) (g.O.Sink.moment c.args.out.now) (g.C.Connections.view c.args.pass.now) in
    let after = moment (g.F.Files.moment c.answer.new.files) (g.O.Sink.moment c.answer.new.out) (g.C.Connections.view c.answer.new.pass) in
    let old = g.E.Sink.moment c.args.err.now in
    let new = g.E.Sink.moment c.answer.new.err in
    let texts = word_texts c.args.words.now in
    λ tree fault told must well.
    refuses_fault texts before after tree told well c.one_command.ensures c.contents_decide-2.ensures c.contents_decide.ensures.files c.contents_decide.ensures.loads
    c.one_run.ensures.run c.one_run.ensures.load old new c.answer.result fault must c.answer.ensures.answered

pub returns-clause-complete : goal.returns-clause-complete
returns-clause-complete g c =
    let before = moment (g.F.Files.moment c.args.files.now) (g.O.Sink.moment c.args.out.now) (g.C.Connections.view c.args.pass.now) in
    let after = moment (g.F.Files.moment c.answer.new.files) (g.O.Sink.moment c.answer.new.out) (g.C.Connections.view c.answer.new.pass) in
    let old = g.E.Sink.moment c.args.err.now in
    let new = g.E.Sink.moment c.answer.new.err in
    let texts = word_texts c.args.words.now in
    λ tree told can well puts writes.
    does_all texts before after tree told well c.one_command.ensures c.contents_decide-2.ensures c.contents_decide.ensures.files c.contents_decide.ensures.loads
    c.one_run.ensures.run c.one_run.ensures.load old new c.answer.result can puts writes c.answer.ensures.answered

pub returns-clause-quiet : goal.returns-clause-quiet
returns-clause-quiet g c =
    let before = moment (g.F.Files.moment c.args.files.now) (g.O.Sink.moment c.args.out.now) (g.C.Connections.view c.args.pass.now) in
    let after = moment (g.F.Files.moment c.answer.new.files) (g.O.Sink.moment c.answer.new.out) (g.C.Connections.view c.answer.new.pass) in
    let old = g.E.Sink.moment c.args.err.now in
    let new = g.E.Sink.moment c.answer.new.err in
    let texts = word_texts c.args.words.now in
    λ quiet. (was_quiet texts before after old new c.answer.result c.answer.ensures.answered quiet).put

pub returns-clause-same : goal.returns-clause-same
returns-clause-same g c =
    let before = moment (g.F.Files.moment c.args.files.now) (g.O.Sink.moment c.args.out.now) (g.C.Connections.view c.args.pass.now) in
    let after = moment (g.F.Files.moment c.answer.new.files) (g.O.Sink.moment c.answer.new.out) (g.C.Connections.view c.answer.new.pass) in
    let old = g.E.Sink.moment c.args.err.now in
    let new = g.E.Sink.moment c.answer.new.err in
    let texts = word_texts c.args.words.now in
    λ quiet. (was_quiet texts before after old new c.answer.result c.answer.ensures.answered quiet).files

pub returns-clause-idle : goal.returns-clause-idle
returns-clause-idle g c =
    let before = moment (g.F.Files.moment c.args.files.now) (g.O.Sink.moment c.args.out.now) (g.C.Connections.view c.args.pass.now) in
    let after = moment (g.F.Files.moment c.answer.new.files) (g.O.Sink.moment c.answer.new.out) (g.C.Connections.view c.answer.new.pass) in
    let old = g.E.Sink.moment c.args.err.now in
    let new = g.E.Sink.moment c.answer.new.err in
    let texts = word_texts c.args.words.now in
    λ quiet. (was_quiet texts before after old new c.answer.result c.answer.ensures.answered quiet).idle

pub returns-clause-kept : goal.returns-clause-kept
returns-clause-kept g c =
    let before = moment (g.F.Files.moment c.args.files.now) (g.O.Sink.moment c.args.out.now) (g.C.Connections.view c.args.pass.now) in
    let after = moment (g.F.Files.moment c.answer.new.files) (g.O.Sink.moment c.answer.new.out) (g.C.Connections.view c.answer.new.pass) in
    let old = g.E.Sink.moment c.args.err.now in
    let new = g.E.Sink.moment c.answer.new.err in
    let texts = word_texts c.args.words.now in
    was_kept texts before after old new c.answer.result c.answer.ensures.answered

pub returns-clause-complete_generated : goal.returns-clause-complete_generated
returns-clause-complete_generated g c =
    let before = moment (g.F.Files.moment c.args.files.now) (g.O.Sink.moment c.args.out.now) (g.C.Connections.view c.args.pass.now) in
    let after = moment (g.F.Files.moment c.answer.new.files) (g.O.Sink.moment c.answer.new.out) (g.C.Connections.view c.answer.new.pass) in
    let old = g.E.Sink.moment c.args.err.now in
    let new = g.E.Sink.moment c.answer.new.err in
    let texts = word_texts c.args.words.now in
    λ can puts. generates_all texts before after c.one_command.ensures can.number can.said c.one_run.ensures.run can.accepted old new c.answer.result puts c.answer.ensures.answered
