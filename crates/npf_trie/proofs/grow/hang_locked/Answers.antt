use Rattle.npf_trie.proofs.HangLemmas.{grown_locked, freed_so}
use Rattle.npf_trie.proofs.grow.hang_locked.Goals as goal

pub hang-step-requires-clause-grown : goal.hang-step-requires-clause-grown
hang-step-requires-clause-grown g c = grown_locked g.L.Law.meaning g.H.KeyHash.digest c.args.cells.now.table.shared.key c.args.wanted.now c.args.point _ _ _ c.requires.free
    (c.lock_hung.ensures.gets c.if-not-lock_hung.false) c.args.branch.now c.requires.grown

pub returns-clause-hangs : goal.returns-clause-hangs
returns-clause-hangs g c = freed_so g.L.Law.meaning g.H.KeyHash.digest c.args.cells.now.table.shared.key c.args.wanted.now c.args.point _ _ _ c.requires.free
    (c.lock_hung.ensures.gets c.if-not-lock_hung.false) c.hang-step.new.pass.seat.me _ c.unlock.ensures.frees c.hang-step.result c.hang-step.ensures.hangs
