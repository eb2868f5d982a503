use Rattle.std.proofs.Common.{rules, ◌≡◌, Err, Ok, refl}
use Rattle.npf_ruleset.specs.Configuration.{configuration}
use Rattle.npf_ctl_input.proofs.AroundLemmas.{around_first, around_itself, around_next}
use Rattle.npf_ctl_words.specs.declared.command.Invocation.TheVariants.{Check}
use Rattle.npf_ctl.specs.{Checks.RefusesCheck, Commands.load_of_check, Questions.{AnswersQuestion, RefusesQuestion}, Run.moment}
use Rattle.npf_ctl.proofs.{AnswerQuestionLemmas.{answer_ends, load_ends, unanswered, unread_check}, FileLemmas.{around_work, nothing_put, only_read, read_on, read_twice}}
use Rattle.npf_ctl.proofs.checks.check.Goals as goal

pub returns-in_err-loaded-clause-ends : goal.returns-in_err-loaded-clause-ends
returns-in_err-loaded-clause-ends g c =
    let first = g.F.Files.moment c.args.files.now in
    let last = g.F.Files.moment c.load_both.new.files in
    let same : c.from_residual.result ≡ Err c.in_err-loaded.field-0.0 = search rules in
    rw same (λ texts pass said. load_ends texts first last (g.O.Sink.moment c.args.out.now) pass (Check c.args.words) (load_of_check c.args.words) refl said (λ why. refl)
    c.load_both.ensures.reads c.in_err-loaded.field-0.0 (rw c.load_of_check.ensures at (c.in_err-loaded.ensures.loads first last (around_work first last last (read_on last)))))

pub returns-in_err-text-clause-ends : goal.returns-in_err-text-clause-ends
returns-in_err-text-clause-ends g c =
    let first = g.F.Files.moment c.args.files.now in
    let middle = g.F.Files.moment c.load_both.new.files in
    let last = g.F.Files.moment c.read_file.new.files in
    let out = g.O.Sink.moment c.args.out.now in
    let words = c.args.words in
    let loaded = c.in_ok-loaded.loaded in
    let fault = c.in_err-text.field-0.0 in
    let same : c.from_residual-in_err-text.result ≡ Err fault = search rules in
    let files = read_twice first middle last c.load_both.ensures.reads c.read_file.ensures.reads in
    let loads = rw c.load_of_check.ensures at
    (c.in_ok-loaded.ensures.loads first last (around_first first first middle last last (around_itself first last) c.read_file.ensures.reads)) in
    let reads = c.in_err-text.ensures.comes first last (around_next first first middle last last (around_itself first last) c.load_both.ensures.reads) in
    rw same (λ texts pass said. unread_check texts (moment first out pass) (moment last out pass) words said loaded.ifaces.list (configuration loaded.config)
    (record { reads = loads.0; loads = loads.1; idle = refl }) (record { put = nothing_put out; files = files; idle = refl }) fault reads)

pub returns-in_err-answer-clause-ends : goal.returns-in_err-answer-clause-ends
returns-in_err-answer-clause-ends g c =
    let first = g.F.Files.moment c.args.files.now in
    let middle = g.F.Files.moment c.load_both.new.files in
    let last = g.F.Files.moment c.read_file.new.files in
    let out = g.O.Sink.moment c.args.out.now in
    let words = c.args.words in
    let loaded = c.in_ok-loaded.loaded in
    let fault = c.in_err-answer.field-0.0 in
    let same : c.from_residual-in_err-answer.result ≡ Err fault = search rules in
    let files = read_twice first middle last c.load_both.ensures.reads c.read_file.ensures.reads in
    let loads = rw c.load_of_check.ensures at
    (c.in_ok-loaded.ensures.loads first last (around_first first first middle last last (around_itself first last) c.read_file.ensures.reads)) in
    let reads = c.in_ok-text.ensures.comes first last (around_next first first middle last last (around_itself first last) c.load_both.ensures.reads) in
    let refuses = rw c.as_slice.ensures.value at c.in_err-answer.ensures.err in
    rw same (λ texts pass said. unanswered texts (moment first out pass) (moment last out pass) (Check words) (load_of_check words) refl said
    loaded.ifaces.list (configuration loaded.config) (record { reads = loads.0; loads = loads.1; idle = refl }) (record { put = nothing_put out; files = files; idle = refl }) fault
    (RefusesQuestion.check words refl (RefusesCheck.refused reads refuses)))

pub returns-clause-ends : goal.returns-clause-ends
returns-clause-ends g c = λ texts pass said.
    let first = g.F.Files.moment c.args.files.now in
    let middle = g.F.Files.moment c.load_both.new.files in
    let last = g.F.Files.moment c.read_file.new.files in
    let before = moment first (g.O.Sink.moment c.args.out.now) pass in
    let after = moment last (g.O.Sink.moment c.put_answer.new.out) pass in
    let words = c.args.words in
    let loaded = c.in_ok-loaded.loaded in
    let answer = c.in_ok-answer.answer in
    let files = read_twice first middle last c.load_both.ensures.reads c.read_file.ensures.reads in
    let loads = rw c.load_of_check.ensures at
    (c.in_ok-loaded.ensures.loads first last (around_first first first middle last last (around_itself first last) c.read_file.ensures.reads)) in
    let reads = c.in_ok-text.ensures.comes first last (around_next first first middle last last (around_itself first last) c.load_both.ensures.reads) in
    let answers = rw c.as_slice.ensures.value at c.in_ok-answer.ensures.ok in
    answer_ends texts before after (Check words) (load_of_check words) refl said loaded.ifaces.list (configuration loaded.config)
    (record { reads = loads.0; loads = loads.1; idle = refl }) answer.finding answer.text.items (λ put. put)
    (AnswersQuestion.check words refl (record { bytes = c.in_ok-text.text.items; reads = reads; answers = answers })) files
    c.put_answer.result c.put_answer.ensures.finding c.put_answer.ensures.whole c.put_answer.ensures.flushed c.put_answer.ensures.front c.put_answer.ensures.fault

pub returns-in_err-loaded-clause-files : goal.returns-in_err-loaded-clause-files
returns-in_err-loaded-clause-files g c = only_read (g.F.Files.moment c.args.files.now) (g.F.Files.moment c.load_both.new.files) c.load_both.ensures.reads

pub returns-in_err-text-clause-files : goal.returns-in_err-text-clause-files
returns-in_err-text-clause-files g c =
    let moment = g.F.Files.moment in
    read_twice (moment c.args.files.now) (moment c.load_both.new.files) (moment c.read_file.new.files) c.load_both.ensures.reads c.read_file.ensures.reads

pub returns-in_err-answer-clause-files : goal.returns-in_err-answer-clause-files
returns-in_err-answer-clause-files g c =
    let moment = g.F.Files.moment in
    read_twice (moment c.args.files.now) (moment c.load_both.new.files) (moment c.read_file.new.files) c.load_both.ensures.reads c.read_file.ensures.reads

pub returns-clause-files : goal.returns-clause-files
returns-clause-files g c =
    let moment = g.F.Files.moment in
    read_twice (moment c.args.files.now) (moment c.load_both.new.files) (moment c.read_file.new.files) c.load_both.ensures.reads c.read_file.ensures.reads
