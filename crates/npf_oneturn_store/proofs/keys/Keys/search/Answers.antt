use Rattle.std.proofs.Common.{sym}
use Rattle.npf_oneturn_store.proofs.HomeLemmas.{unnamed_nowhere, flag_read}
use Rattle.npf_oneturn_store.proofs.keys.Keys.search.Goals as goal

pub returns : goal.returns
returns c =
    let s = c.args.self.now in
    sym (unnamed_nowhere s.buckets s.holdings.items s.cells.items s.spilled.items s.kept c.args.key
    (rw (← c.requires.bucket) c.in_default.ensures.none)
    (rw (← c.requires.bucket) (flag_read s.spilled.items c.args.bucket c.index.result.now c.index.ensures c.if-index.false)))
