use Rattle.npf_table.proofs.TableFileLemmas.{pushed_gains}
use Rattle.npf_table.proofs.table.append.Goals as goal

pub returns : goal.returns
returns c = pushed_gains c.args.prefixes.now.items c.push.new.self.items c.args.prefix c.in_ok-push.ensures.items
