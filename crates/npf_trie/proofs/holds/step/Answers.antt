use Rattle.std.proofs.Common.{arith}
use Rattle.npf_trie.proofs.CountLemmas.{by_load, by_words}
use Rattle.npf_trie.proofs.StepLemmas.{leaf_loaded, node_leads, mark_anew, empty_stays, holder_read_ends, other_read_stays, other_met, stepped, stepped_after, can_still, protected_still}
use Rattle.npf_trie.proofs.FillLemmas.{aim_tells}
use Rattle.npf_trie.proofs.holds.step.Goals as goal

pub meet-requires-clause-leaf : goal.meet-requires-clause-leaf
meet-requires-clause-leaf g c =
    let loads = aim_tells g.L.Law.meaning g.H.KeyHash.digest c.args.cells.now.table.shared.key c.args.wanted.now c.args.point _ _ _ _ c.aim.ensures c.in-Leaf.ensures.tells in
    leaf_loaded g.L.Law.meaning g.H.KeyHash.digest c.args.cells.now.table.shared.key c.args.wanted.now c.args.point _ _ _ _ loads

pub grow-requires-clause-protected : goal.grow-requires-clause-protected
grow-requires-clause-protected g c =
    let loads = aim_tells g.L.Law.meaning g.H.KeyHash.digest c.args.cells.now.table.shared.key c.args.wanted.now c.args.point _ _ _ _ c.aim.ensures c.in-Leaf.ensures.tells in
    let came = other_read_stays g.L.Law.meaning g.H.KeyHash.digest c.args.cells.now.table.shared.key c.args.wanted.now
    c.args.point _ _ _ _ loads _ c.meet.ensures.compares c.in-Other.key c.in-Other.ensures.met c.requires.at in
    protected_still g.L.Law.meaning g.H.KeyHash.digest c.args.cells.now.table.shared.key c.args.wanted.now c.args.point _ _ came c.requires.protected

pub grow-requires-clause-can : goal.grow-requires-clause-can
grow-requires-clause-can g c =
    let loads = aim_tells g.L.Law.meaning g.H.KeyHash.digest c.args.cells.now.table.shared.key c.args.wanted.now c.args.point _ _ _ _ c.aim.ensures c.in-Leaf.ensures.tells in
    let came = other_read_stays g.L.Law.meaning g.H.KeyHash.digest c.args.cells.now.table.shared.key c.args.wanted.now
    c.args.point _ _ _ _ loads _ c.meet.ensures.compares c.in-Other.key c.in-Other.ensures.met c.requires.at in
    can_still g.L.Law.meaning g.H.KeyHash.digest c.args.cells.now.table.shared.key c.args.wanted.now c.args.point _ _ came c.requires.can

pub grow-requires-clause-at : goal.grow-requires-clause-at
grow-requires-clause-at g c =
    let loads = aim_tells g.L.Law.meaning g.H.KeyHash.digest c.args.cells.now.table.shared.key c.args.wanted.now c.args.point _ _ _ _ c.aim.ensures c.in-Leaf.ensures.tells in
    let came = other_read_stays g.L.Law.meaning g.H.KeyHash.digest c.args.cells.now.table.shared.key c.args.wanted.now
    c.args.point _ _ _ _ loads _ c.meet.ensures.compares c.in-Other.key c.in-Other.ensures.met c.requires.at in
    came.comes.1

pub grow-requires-clause-met : goal.grow-requires-clause-met
grow-requires-clause-met g c =
    let loads = aim_tells g.L.Law.meaning g.H.KeyHash.digest c.args.cells.now.table.shared.key c.args.wanted.now c.args.point _ _ _ _ c.aim.ensures c.in-Leaf.ensures.tells in
    other_met g.L.Law.meaning g.H.KeyHash.digest c.args.cells.now.table.shared.key c.args.wanted.now c.args.point
    _ _ _ _ loads _ c.meet.ensures.compares c.in-Other.key c.in-Other.ensures.met c.requires.at

pub returns-in-Node-clause-steps : goal.returns-in-Node-clause-steps
returns-in-Node-clause-steps g c =
    let loads = aim_tells g.L.Law.meaning g.H.KeyHash.digest c.args.cells.now.table.shared.key c.args.wanted.now c.args.point _ _ _ _ c.aim.ensures c.in-Node.ensures.tells in
    stepped g.L.Law.meaning g.H.KeyHash.digest c.args.cells.now.table.shared.key c.args.wanted.now c.args.point _ _ _
    (node_leads g.L.Law.meaning g.H.KeyHash.digest c.args.cells.now.table.shared.key c.args.wanted.now c.args.point _ _ _ loads c.requires.at)

pub returns-in-Empty-clause-steps : goal.returns-in-Empty-clause-steps
returns-in-Empty-clause-steps g c =
    let loads = aim_tells g.L.Law.meaning g.H.KeyHash.digest c.args.cells.now.table.shared.key c.args.wanted.now c.args.point _ _ _ _ c.aim.ensures c.in-Empty.ensures.tells in
    stepped_after g.L.Law.meaning g.H.KeyHash.digest c.args.cells.now.table.shared.key c.args.wanted.now c.args.point _ _ _ _
    (empty_stays g.L.Law.meaning g.H.KeyHash.digest c.args.cells.now.table.shared.key c.args.wanted.now c.args.point _ _ loads c.requires.at) c.fill.ensures.steps

pub returns-in-Holder-clause-steps : goal.returns-in-Holder-clause-steps
returns-in-Holder-clause-steps g c =
    let loads = aim_tells g.L.Law.meaning g.H.KeyHash.digest c.args.cells.now.table.shared.key c.args.wanted.now c.args.point _ _ _ _ c.aim.ensures c.in-Leaf.ensures.tells in
    stepped g.L.Law.meaning g.H.KeyHash.digest c.args.cells.now.table.shared.key c.args.wanted.now c.args.point _ _ _
    (holder_read_ends g.L.Law.meaning g.H.KeyHash.digest c.args.cells.now.table.shared.key c.args.wanted.now
    c.args.point _ _ _ _ loads _ c.meet.ensures.compares c.in-Holder.found c.in-Holder.ensures.met)

pub returns-in-Other-clause-steps : goal.returns-in-Other-clause-steps
returns-in-Other-clause-steps g c =
    let loads = aim_tells g.L.Law.meaning g.H.KeyHash.digest c.args.cells.now.table.shared.key c.args.wanted.now c.args.point _ _ _ _ c.aim.ensures c.in-Leaf.ensures.tells in
    let came = other_read_stays g.L.Law.meaning g.H.KeyHash.digest c.args.cells.now.table.shared.key c.args.wanted.now
    c.args.point _ _ _ _ loads _ c.meet.ensures.compares c.in-Other.key c.in-Other.ensures.met c.requires.at in
    stepped_after g.L.Law.meaning g.H.KeyHash.digest c.args.cells.now.table.shared.key c.args.wanted.now c.args.point _ _ _ _ came c.grow.ensures.steps

pub returns-in-Mark-clause-steps : goal.returns-in-Mark-clause-steps
returns-in-Mark-clause-steps g c =
    let loads = aim_tells g.L.Law.meaning g.H.KeyHash.digest c.args.cells.now.table.shared.key c.args.wanted.now c.args.point _ _ _ _ c.aim.ensures c.in-Mark.ensures.tells in
    stepped g.L.Law.meaning g.H.KeyHash.digest c.args.cells.now.table.shared.key c.args.wanted.now c.args.point _ _ _
    (mark_anew g.L.Law.meaning g.H.KeyHash.digest c.args.cells.now.table.shared.key c.args.wanted.now c.args.point _ _ loads)

pub returns-in-Node-clause-loaded : goal.returns-in-Node-clause-loaded
returns-in-Node-clause-loaded g c = let load =
    by_load g.L.Law.meaning g.H.KeyHash.digest c.args.cells.now.table.shared.key c.args.wanted.now c.args.point _ c.aim.ensures _ _ _ c.in-Node.ensures.tells in omega (arith, load)

pub returns-in-Empty-clause-loaded : goal.returns-in-Empty-clause-loaded
returns-in-Empty-clause-loaded g c = let load = by_load g.L.Law.meaning g.H.KeyHash.digest c.args.cells.now.table.shared.key c.args.wanted.now
    c.args.point _ c.aim.ensures _ _ _ c.in-Empty.ensures.tells in let more = c.fill.ensures.loads in omega (arith, load, more)

pub returns-in-Holder-clause-loaded : goal.returns-in-Holder-clause-loaded
returns-in-Holder-clause-loaded g c =
    let load = by_load g.L.Law.meaning g.H.KeyHash.digest c.args.cells.now.table.shared.key c.args.wanted.now c.args.point _ c.aim.ensures _ _ _ c.in-Leaf.ensures.tells in
    let words = by_words _ _ _ c.meet.ensures.compares in
    omega (arith, load, words)

pub returns-in-Other-clause-loaded : goal.returns-in-Other-clause-loaded
returns-in-Other-clause-loaded g c =
    let load = by_load g.L.Law.meaning g.H.KeyHash.digest c.args.cells.now.table.shared.key c.args.wanted.now c.args.point _ c.aim.ensures _ _ _ c.in-Leaf.ensures.tells in
    let words = by_words _ _ _ c.meet.ensures.compares in
    let more = c.grow.ensures.loads in
    omega (arith, load, words, more)

pub returns-in-Mark-clause-loaded : goal.returns-in-Mark-clause-loaded
returns-in-Mark-clause-loaded g c = let load =
    by_load g.L.Law.meaning g.H.KeyHash.digest c.args.cells.now.table.shared.key c.args.wanted.now c.args.point _ c.aim.ensures _ _ _ c.in-Mark.ensures.tells in omega (arith, load)
