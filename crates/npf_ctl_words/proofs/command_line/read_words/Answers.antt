use Rattle.std.proofs.Common.{sym}
use Rattle.npf_ctl_words.{specs.CommandLine.word_texts, proofs.SayLemmas.says}
use Rattle.npf_ctl_words.proofs.command_line.read_words.Goals as goal

pub returns-in-Some-command_of-clause-read : goal.returns-in-Some-command_of-clause-read
returns-in-Some-command_of-clause-read c =
    let some = c.in-Some-command_of in
    says (word_texts c.args.words.now) c.in-Some.name c.in-Ok.matches some.command
    (record { named = sym c.in-Some.ensures; taken = c.in-Ok.ensures.taken; found = c.in-Ok.ensures.found })
    some.ensures.known some.ensures.name some.ensures.told
