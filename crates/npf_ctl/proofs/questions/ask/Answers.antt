use Rattle.std.proofs.Common.{rules, ◌≡◌, Err, refl, subst}
use Rattle.npf_ruleset.specs.Configuration.{configuration}
use Rattle.npf_ctl.{specs.Run.moment, proofs.AnswerQuestionLemmas.{answer_ends, asks_explain, asks_load, asks_put, unanswered, unloaded}}
use Rattle.npf_ctl.specs.Questions.{AnswersQuestion, RefusesQuestion, asking_command, loaded_of_question}
use Rattle.npf_ctl.proofs.FileLemmas.{around_work, nothing_put, only_read, read_on}
use Rattle.npf_ctl.proofs.questions.ask.Goals as goal

pub returns-in_err-loaded-clause-ends : goal.returns-in_err-loaded-clause-ends
returns-in_err-loaded-clause-ends g c =
    let first = g.F.Files.moment c.args.files.now in
    let last = g.F.Files.moment c.load_both.new.files in
    let out = g.O.Sink.moment c.args.out.now in
    let fault = c.in_err-loaded.field-0.0 in
    let same : c.from_residual.result ≡ Err fault = search rules in
    rw same (λ texts pass said. unloaded texts (moment first out pass) (moment last out pass) (asking_command c.args.question) (loaded_of_question c.args.question)
    (asks_load c.args.question) said (asks_explain c.args.question) (record { put = nothing_put out; files = only_read first last c.load_both.ensures.reads; idle = refl }) fault
    (rw c.load_of.ensures at (c.in_err-loaded.ensures.loads first last (around_work first last last (read_on last)))))

pub returns-in_err-answer-clause-ends : goal.returns-in_err-answer-clause-ends
returns-in_err-answer-clause-ends g c =
    let first = g.F.Files.moment c.args.files.now in
    let last = g.F.Files.moment c.load_both.new.files in
    let out = g.O.Sink.moment c.args.out.now in
    let loaded = c.in_ok-loaded.loaded in
    let fault = c.in_err-answer.field-0.0 in
    let same : c.from_residual-in_err-answer.result ≡ Err fault = search rules in
    let loads = rw c.load_of.ensures at (c.in_ok-loaded.ensures.loads first last (around_work first last last (read_on last))) in
    rw same (λ texts pass said. unanswered texts (moment first out pass) (moment last out pass) (asking_command c.args.question) (loaded_of_question c.args.question)
    (asks_load c.args.question) said loaded.ifaces.list (configuration loaded.config)
    (record { reads = loads.0; loads = loads.1; idle = refl })
    (record { put = nothing_put out; files = only_read first last c.load_both.ensures.reads; idle = refl }) fault (RefusesQuestion.class c.in_err-answer.ensures.err))

pub returns-clause-ends : goal.returns-clause-ends
returns-clause-ends g c = λ texts pass said.
    let first = g.F.Files.moment c.args.files.now in
    let last = g.F.Files.moment c.load_both.new.files in
    let before = moment first (g.O.Sink.moment c.args.out.now) pass in
    let after = moment last (g.O.Sink.moment c.put_answer.new.out) pass in
    let loaded = c.in_ok-loaded.loaded in
    let answer = c.in_ok-answer.answer in
    let loads = rw c.load_of.ensures at (c.in_ok-loaded.ensures.loads first last (around_work first last last (read_on last))) in
    answer_ends texts before after (asking_command c.args.question) (loaded_of_question c.args.question) (asks_load c.args.question) said loaded.ifaces.list (configuration loaded.config)
    (record { reads = loads.0; loads = loads.1; idle = refl })
    answer.finding answer.text.items (asks_put before after c.args.question answer.finding) (AnswersQuestion.class c.in_ok-answer.ensures.ok) (only_read first last c.load_both.ensures.reads)
    c.put_answer.result c.put_answer.ensures.finding c.put_answer.ensures.whole c.put_answer.ensures.flushed c.put_answer.ensures.front c.put_answer.ensures.fault

pub returns-in_err-loaded-clause-files : goal.returns-in_err-loaded-clause-files
returns-in_err-loaded-clause-files g c = only_read (g.F.Files.moment c.args.files.now) (g.F.Files.moment c.load_both.new.files) c.load_both.ensures.reads

pub returns-in_err-answer-clause-files : goal.returns-in_err-answer-clause-files
returns-in_err-answer-clause-files g c = only_read (g.F.Files.moment c.args.files.now) (g.F.Files.moment c.load_both.new.files) c.load_both.ensures.reads

pub returns-clause-files : goal.returns-clause-files
returns-clause-files g c = only_read (g.F.Files.moment c.args.files.now) (g.F.Files.moment c.load_both.new.files) c.load_both.ensures.reads
