use Rattle.std.proofs.Common.{refl}
use Rattle.npf_config.proofs.TableLemmas.{no_reads}
use Rattle.npf_connsave.proofs.KeysLemmas.{sole_self}
use Rattle.npf_ctl_saved.proofs.loads.load_connections.Goals as goal

pub returns-in-None-clause-begins : goal.returns-in-None-clause-begins
returns-in-None-clause-begins g c = λ before after around. rw c.in-None.is refl

pub returns-in-None-clause-reads : goal.returns-in-None-clause-reads
returns-in-None-clause-reads g c = no_reads (g.F.Files.moment c.args.files.now)

pub returns-in-None-clause-same : goal.returns-in-None-clause-same
returns-in-None-clause-same g c = sole_self (g.C.Connections.view c.args.pass.now)

pub returns-in-Some-clause-begins : goal.returns-in-Some-clause-begins
returns-in-Some-clause-begins g c = λ before after around. rw c.in-Some.is (c.load_file.ensures.begins before after around)

pub returns-in-Some-clause-fails : goal.returns-in-Some-clause-fails
returns-in-Some-clause-fails g c = λ before after around. rw c.in-Some.is (c.load_file.ensures.fails before after around)
