use Rattle.npf_ctl.proofs.SaveLemmas.{unsaved_named}
use Rattle.npf_ctl_words.specs.CommandLine.{given_text}
use Rattle.std.proofs.Common.{◌≡◌, Some, ap}
use Rattle.npf_ctl.proofs.saves.save_connections.Goals as goal

pub returns-in-Some-clause-saved : goal.returns-in-Some-clause-saved
returns-in-Some-clause-saved g c = rw c.in-Some.is c.save_file.ensures.saved

pub returns-in-Some-clause-fails : goal.returns-in-Some-clause-fails
returns-in-Some-clause-fails g c =
    let named : given_text c.args.file ≡ Some c.in-Some.file.now = ap given_text c.in-Some.is in
    unsaved_named (given_text c.args.file) c.in-Some.file.now named (g.F.Files.moment c.args.files.now) (g.F.Files.moment c.save_file.new.files) c.save_file.result c.save_file.ensures.fails

pub returns-in-Some-clause-others : goal.returns-in-Some-clause-others
returns-in-Some-clause-others g c = rw c.in-Some.is c.save_file.ensures.others
