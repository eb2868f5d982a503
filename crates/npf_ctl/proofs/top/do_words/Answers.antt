use Rattle.std.proofs.Common.{rules, inl, subst}
use Rattle.npf_ctl_words.specs.CommandLine.{SaysCommand, word_texts}
use Rattle.npf_ctl.{specs.{Faults.{LeavesFiles, MeetsFault}, Run.moment}, proofs.FileLemmas.{not_touched, nothing_put, same_as_itself}}
use Rattle.npf_ctl.proofs.top.do_words.Goals as goal

pub returns-in-Err-Usage-clause-ends : goal.returns-in-Err-Usage-clause-ends
returns-in-Err-Usage-clause-ends g c =
    MeetsFault.in_words (search rules) (not_touched (moment (g.F.Files.moment c.args.files.now) (g.O.Sink.moment c.args.out.now) (g.C.Connections.view c.args.pass.now)))

pub returns-in-Err-NoMemory-clause-ends : goal.returns-in-Err-NoMemory-clause-ends
returns-in-Err-NoMemory-clause-ends g c = MeetsFault.in_memory (inl (nothing_put (g.O.Sink.moment c.args.out.now)))
    (LeavesFiles.unchanged (same_as_itself (g.F.Files.moment c.args.files.now).contents))

pub returns-in-Run-clause-ends : goal.returns-in-Run-clause-ends
returns-in-Run-clause-ends g c =
    let texts = word_texts c.args.words.now in
    let before = moment (g.F.Files.moment c.args.files.now) (g.O.Sink.moment c.args.out.now) (g.C.Connections.view c.args.pass.now) in
    let after = moment (g.F.Files.moment c.run.new.files) (g.O.Sink.moment c.run.new.out) (g.C.Connections.view c.run.new.pass) in
    c.plainly.ensures texts before after
    (c.run.ensures.ends texts (subst (SaysCommand texts) c.in-Run.is c.in-Ok.ensures.read))

pub returns-in-Run-clause-files : goal.returns-in-Run-clause-files
returns-in-Run-clause-files g c =
    c.run.ensures.files (word_texts c.args.words.now) (subst (SaysCommand (word_texts c.args.words.now)) c.in-Run.is c.in-Ok.ensures.read)

pub returns-in-Gen-clause-ends : goal.returns-in-Gen-clause-ends
returns-in-Gen-clause-ends g c =
    let texts = word_texts c.args.words.now in
    let before = moment (g.F.Files.moment c.args.files.now) (g.O.Sink.moment c.args.out.now) (g.C.Connections.view c.args.pass.now) in
    let after = moment (g.F.Files.moment c.args.files.now) (g.O.Sink.moment c.run_generated.new.out) (g.C.Connections.view c.run_generated.new.pass) in
    c.plainly-in-Gen.ensures texts before after (c.run_generated.ensures.ends texts (g.F.Files.moment c.args.files.now) (search rules))

pub returns-in-Validate-clause-ends : goal.returns-in-Validate-clause-ends
returns-in-Validate-clause-ends g c =
    let texts = word_texts c.args.words.now in
    let before = moment (g.F.Files.moment c.args.files.now) (g.O.Sink.moment c.args.out.now) (g.C.Connections.view c.args.pass.now) in
    let after = moment (g.F.Files.moment c.look_at.new.files) (g.O.Sink.moment c.look_at.new.out) (g.C.Connections.view c.args.pass.now) in
    c.plainly-in-Validate.ensures texts before after
    (c.look_at.ensures.ends texts (g.C.Connections.view c.args.pass.now) (subst (SaysCommand texts) c.in-Validate.is c.in-Ok.ensures.read))

pub returns-in-Show-clause-ends : goal.returns-in-Show-clause-ends
returns-in-Show-clause-ends g c =
    let texts = word_texts c.args.words.now in
    let before = moment (g.F.Files.moment c.args.files.now) (g.O.Sink.moment c.args.out.now) (g.C.Connections.view c.args.pass.now) in
    let after = moment (g.F.Files.moment c.look_at-in-Show.new.files) (g.O.Sink.moment c.look_at-in-Show.new.out) (g.C.Connections.view c.args.pass.now) in
    c.plainly-in-Show.ensures texts before after
    (c.look_at-in-Show.ensures.ends texts (g.C.Connections.view c.args.pass.now) (subst (SaysCommand texts) c.in-Show.is c.in-Ok.ensures.read))

pub returns-in-Debug-clause-ends : goal.returns-in-Debug-clause-ends
returns-in-Debug-clause-ends g c =
    let texts = word_texts c.args.words.now in
    let before = moment (g.F.Files.moment c.args.files.now) (g.O.Sink.moment c.args.out.now) (g.C.Connections.view c.args.pass.now) in
    let after = moment (g.F.Files.moment c.look_at-in-Debug.new.files) (g.O.Sink.moment c.look_at-in-Debug.new.out) (g.C.Connections.view c.args.pass.now) in
    c.plainly-in-Debug.ensures texts before after
    (c.look_at-in-Debug.ensures.ends texts (g.C.Connections.view c.args.pass.now) (subst (SaysCommand texts) c.in-Debug.is c.in-Ok.ensures.read))

pub returns-in-Why-clause-ends : goal.returns-in-Why-clause-ends
returns-in-Why-clause-ends g c =
    let texts = word_texts c.args.words.now in
    let before = moment (g.F.Files.moment c.args.files.now) (g.O.Sink.moment c.args.out.now) (g.C.Connections.view c.args.pass.now) in
    let after = moment (g.F.Files.moment c.explain.new.files) (g.O.Sink.moment c.explain.new.out) (g.C.Connections.view c.args.pass.now) in
    c.plainly-in-Why.ensures texts before after
    (c.explain.ensures.ends texts (g.C.Connections.view c.args.pass.now) (subst (SaysCommand texts) c.in-Why.is c.in-Ok.ensures.read))

pub returns-in-WhyAll-clause-ends : goal.returns-in-WhyAll-clause-ends
returns-in-WhyAll-clause-ends g c =
    let texts = word_texts c.args.words.now in
    let before = moment (g.F.Files.moment c.args.files.now) (g.O.Sink.moment c.args.out.now) (g.C.Connections.view c.args.pass.now) in
    let after = moment (g.F.Files.moment c.explain-in-WhyAll.new.files) (g.O.Sink.moment c.explain-in-WhyAll.new.out) (g.C.Connections.view c.args.pass.now) in
    c.plainly-in-WhyAll.ensures texts before after
    (c.explain-in-WhyAll.ensures.ends texts (g.C.Connections.view c.args.pass.now) (subst (SaysCommand texts) c.in-WhyAll.is c.in-Ok.ensures.read))

pub returns-in-Explain-clause-ends : goal.returns-in-Explain-clause-ends
returns-in-Explain-clause-ends g c =
    c.ask.ensures.ends (word_texts c.args.words.now) (g.C.Connections.view c.args.pass.now)
    (subst (SaysCommand (word_texts c.args.words.now)) c.in-Explain.is c.in-Ok.ensures.read)

pub returns-in-Query-clause-ends : goal.returns-in-Query-clause-ends
returns-in-Query-clause-ends g c =
    c.ask-in-Query.ensures.ends (word_texts c.args.words.now) (g.C.Connections.view c.args.pass.now)
    (subst (SaysCommand (word_texts c.args.words.now)) c.in-Query.is c.in-Ok.ensures.read)

pub returns-in-Check-clause-ends : goal.returns-in-Check-clause-ends
returns-in-Check-clause-ends g c =
    c.check.ensures.ends (word_texts c.args.words.now) (g.C.Connections.view c.args.pass.now)
    (subst (SaysCommand (word_texts c.args.words.now)) c.in-Check.is c.in-Ok.ensures.read)

pub returns-in-Lint-clause-ends : goal.returns-in-Lint-clause-ends
returns-in-Lint-clause-ends g c =
    c.lint.ensures.ends (word_texts c.args.words.now) (g.C.Connections.view c.args.pass.now)
    (subst (SaysCommand (word_texts c.args.words.now)) c.in-Lint.is c.in-Ok.ensures.read)

pub returns-in-Compare-clause-ends : goal.returns-in-Compare-clause-ends
returns-in-Compare-clause-ends g c =
    c.compare.ensures.ends (word_texts c.args.words.now) (g.C.Connections.view c.args.pass.now)
    (subst (SaysCommand (word_texts c.args.words.now)) c.in-Compare.is c.in-Ok.ensures.read)
