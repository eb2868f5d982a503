use Rattle.std.proofs.Common.{refl}
use Rattle.npf_ctl_words.specs.CommandLine.{word_texts}
use Rattle.npf_ctl.{specs.{Ends.AnswersWords, Run.moment}, proofs.{AnswerLemmas.said_fault, FileLemmas.nothing_put}}
use Rattle.npf_ctl.proofs.top.answer.Goals as goal

pub returns-in-Ok-clause-answered : goal.returns-in-Ok-clause-answered
returns-in-Ok-clause-answered g c =
    AnswersWords.done c.status.ensures c.in-Ok.ensures.ends.0 c.in-Ok.ensures.ends.1 (nothing_put (g.E.Sink.moment c.args.err.now))

pub returns-in-Err-clause-answered : goal.returns-in-Err-clause-answered
returns-in-Err-clause-answered g c =
    let before = moment (g.F.Files.moment c.args.files.now) (g.O.Sink.moment c.args.out.now) (g.C.Connections.view c.args.pass.now) in
    let after = moment (g.F.Files.moment c.do_words.new.files) (g.O.Sink.moment c.do_words.new.out) (g.C.Connections.view c.do_words.new.pass) in
    said_fault (word_texts c.args.words.now) before after (g.E.Sink.moment c.args.err.now) (g.E.Sink.moment c.say.new.err) c.say.result
    c.in-Err.fault c.in-Err.ensures.ends c.say.ensures
