use Rattle.std.proofs.Common.{rules, ◌≡◌, [], Ok, Err, Option, refl, subst}
use Rattle.npf_ctl_words.specs.CommandLine.{given_text}
use Rattle.npf_ctl.specs.{declared.reasons.Reason.Reason, Reasons.{FindsReason, telling_command}, Run.moment}
use Rattle.npf_ctl.proofs.{EndLemmas.text_ends, FileLemmas.{nothing_put, only_read}, ReasonLemmas.{meets_explained, meets_unplaced, nothing_said, why_does}}
use Rattle.npf_ctl.proofs.reasons.explain.Goals as goal

pub returns-in_err-found-clause-ends : goal.returns-in_err-found-clause-ends
returns-in_err-found-clause-ends g c =
    let first = g.F.Files.moment c.args.files.now in
    let last = g.F.Files.moment c.find_reason.new.files in
    let out = g.O.Sink.moment c.args.out.now in
    let fault = c.in_err-found.field-0.0 in
    let same : c.from_residual.result ≡ Err fault = search rules in
    rw same (λ texts pass said. meets_unplaced texts (moment first out pass) (moment last out pass) c.args.which c.args.load said (only_read first last c.find_reason.ensures.reads) refl
    (nothing_put out) fault c.in_err-found.ensures.found)

pub returns-in-None-clause-ends : goal.returns-in-None-clause-ends
returns-in-None-clause-ends g c = λ texts pass said.
    let first = g.F.Files.moment c.args.files.now in
    let last = g.F.Files.moment c.find_reason.new.files in
    let before = moment first (g.O.Sink.moment c.args.out.now) pass in
    let after = moment last (g.O.Sink.moment c.put_text.new.out) pass in
    let load = c.args.load in
    let same = only_read first last c.find_reason.ensures.reads in
    let found = subst (λ (it : Option Reason). FindsReason c.args.which first last (given_text load.ifaces) load.conf.now (Ok it)) c.in-None.is c.in_ok-found.ensures.found in
    text_ends texts before after (telling_command c.args.which load) [] said (nothing_said before after c.args.which load refl found) same
    (why_does c.args.which load before after) c.put_text.result c.put_text.ensures.whole
    c.put_text.ensures.flushed c.put_text.ensures.front c.put_text.ensures.fault

pub returns-in-Some-clause-ends : goal.returns-in-Some-clause-ends
returns-in-Some-clause-ends g c = λ texts pass said.
    let first = g.F.Files.moment c.args.files.now in
    let last = g.F.Files.moment c.find_reason.new.files in
    let before = moment first (g.O.Sink.moment c.args.out.now) pass in
    let after = moment last (g.O.Sink.moment c.put_reason.new.out) pass in
    let load = c.args.load in
    let found = subst (λ (it : Option Reason). FindsReason c.args.which first last (given_text load.ifaces) load.conf.now (Ok it)) c.in-Some.is c.in_ok-found.ensures.found in
    meets_explained texts before after c.args.which load said (only_read first last c.find_reason.ensures.reads) refl c.in-Some.reason found c.put_reason.result c.put_reason.ensures
