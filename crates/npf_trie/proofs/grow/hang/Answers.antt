use Rattle.std.proofs.Common.{refl, arith}
use Rattle.npf_trie.proofs.CountLemmas.{by_load, by_words}
use Rattle.npf_trie.proofs.HangLemmas.{holds_at, leaf_known, hangs_taken, sees_other, same_leaf, sees_again, sees_protected, still_there, grown_still, turn_still, sees_leaf, hung_then}
use Rattle.npf_trie.proofs.grow.hang.Goals as goal

pub meet-requires-clause-leaf : goal.meet-requires-clause-leaf
meet-requires-clause-leaf g c = leaf_known _ _ _ _ _ _ _ _ _ _ _ (holds_at _ _ _ _ _ _ _ _ _ _ _ c.aim.ensures c.in-Leaf.ensures.tells)

pub put_branch-requires-clause-protected : goal.put_branch-requires-clause-protected
put_branch-requires-clause-protected g c =
    let sees = sees_other g.L.Law.meaning g.H.KeyHash.digest _ _ _ _ _ _ _ _ _
    (holds_at _ _ _ _ _ _ _ _ _ _ _ c.aim.ensures c.in-Leaf.ensures.tells) _ _ c.meet.ensures.compares c.in-Other.ensures.met in
    sees_protected _ _ _ _ _ _ _ sees c.requires.protected

pub put_branch-requires-clause-turn : goal.put_branch-requires-clause-turn
put_branch-requires-clause-turn g c =
    let sees = sees_other g.L.Law.meaning g.H.KeyHash.digest _ _ _ _ _ _ _ _ _
    (holds_at _ _ _ _ _ _ _ _ _ _ _ c.aim.ensures c.in-Leaf.ensures.tells) _ _ c.meet.ensures.compares c.in-Other.ensures.met in
    let same = same_leaf c.args.branch.now.other.slot c.in-Leaf.slot c.args.branch.now.other.way c.in-Leaf.way c.args.branch.now.other.key c.in-Other.key c.eq.result c.eq.ensures c.if-eq.true in
    turn_still g.L.Law.meaning g.H.KeyHash.digest c.args.cells.now.table.shared.key c.args.wanted.now c.args.point c.args.branch.now _ _
    (sees_again _ _ c.args.branch.now.other _ _ _ _ _ same sees) c.requires.turn

pub put_branch-requires-clause-grown : goal.put_branch-requires-clause-grown
put_branch-requires-clause-grown g c =
    let sees = sees_other g.L.Law.meaning g.H.KeyHash.digest _ _ _ _ _ _ _ _ _
    (holds_at _ _ _ _ _ _ _ _ _ _ _ c.aim.ensures c.in-Leaf.ensures.tells) _ _ c.meet.ensures.compares c.in-Other.ensures.met in
    let same = same_leaf c.args.branch.now.other.slot c.in-Leaf.slot c.args.branch.now.other.way c.in-Leaf.way c.args.branch.now.other.key c.in-Other.key c.eq.result c.eq.ensures c.if-eq.true in
    grown_still g.L.Law.meaning g.H.KeyHash.digest c.args.cells.now.table.shared.key c.args.wanted.now c.args.point c.args.branch.now _ _
    (sees_again _ _ c.args.branch.now.other _ _ _ _ _ same sees) c.requires.grown

pub put_branch-requires-clause-sees : goal.put_branch-requires-clause-sees
put_branch-requires-clause-sees g c =
    let sees = sees_other g.L.Law.meaning g.H.KeyHash.digest _ _ _ _ _ _ _ _ _
    (holds_at _ _ _ _ _ _ _ _ _ _ _ c.aim.ensures c.in-Leaf.ensures.tells) _ _ c.meet.ensures.compares c.in-Other.ensures.met in
    let same = same_leaf c.args.branch.now.other.slot c.in-Leaf.slot c.args.branch.now.other.way c.in-Leaf.way c.args.branch.now.other.key c.in-Other.key c.eq.result c.eq.ensures c.if-eq.true in
    sees_leaf g.L.Law.meaning g.H.KeyHash.digest c.args.cells.now.table.shared.key c.args.wanted.now c.args.point c.args.branch.now _ _
    (sees_again _ _ c.args.branch.now.other _ _ _ _ _ same sees) c.requires.locked

pub returns-in-Holder-clause-hangs : goal.returns-in-Holder-clause-hangs
returns-in-Holder-clause-hangs g c =
    hangs_taken _ _ _ _ _ _ _ _ _ _ _ (holds_at _ _ _ _ _ _ _ _ _ _ _ c.aim.ensures c.in-Leaf.ensures.tells) c.args.wanted.now refl _ _ c.meet.ensures.compares c.in-Holder.ensures.met

pub returns-in-Other-clause-hangs : goal.returns-in-Other-clause-hangs
returns-in-Other-clause-hangs g c =
    let sees = sees_other g.L.Law.meaning g.H.KeyHash.digest _ _ _ _ _ _ _ _ _
    (holds_at _ _ _ _ _ _ _ _ _ _ _ c.aim.ensures c.in-Leaf.ensures.tells) _ _ c.meet.ensures.compares c.in-Other.ensures.met in
    let same = same_leaf c.args.branch.now.other.slot c.in-Leaf.slot c.args.branch.now.other.way c.in-Leaf.way c.args.branch.now.other.key c.in-Other.key c.eq.result c.eq.ensures c.if-eq.true in
    hung_then g.L.Law.meaning g.H.KeyHash.digest c.args.cells.now.table.shared.key c.args.wanted.now c.args.point c.args.branch.now _ _
    (sees_again _ _ c.args.branch.now.other _ _ _ _ _ same sees) _ c.put_branch.ensures.hung

pub returns-in-Other-2-clause-hangs : goal.returns-in-Other-2-clause-hangs
returns-in-Other-2-clause-hangs g c =
    still_there _ _ c.args.wanted.now.key c.args.point _ _ _ _ _ c.requires.grown.at
    (sees_other g.L.Law.meaning g.H.KeyHash.digest _ _ _ _ _ _ _ _ _ (holds_at _ _ _ _ _ _ _ _ _ _ _ c.aim.ensures c.in-Leaf.ensures.tells) _ _ c.meet.ensures.compares c.in-Other.ensures.met)

pub returns-in-Node-clause-loads : goal.returns-in-Node-clause-loads
returns-in-Node-clause-loads g c = let load =
    by_load g.L.Law.meaning g.H.KeyHash.digest c.args.cells.now.table.shared.key c.args.wanted.now c.args.point _ c.aim.ensures _ _ _ c.in-Node.ensures.tells in omega (arith, load)

pub returns-in-Holder-clause-loads : goal.returns-in-Holder-clause-loads
returns-in-Holder-clause-loads g c =
    let load = by_load g.L.Law.meaning g.H.KeyHash.digest c.args.cells.now.table.shared.key c.args.wanted.now c.args.point _ c.aim.ensures _ _ _ c.in-Leaf.ensures.tells in
    let words = by_words _ _ _ c.meet.ensures.compares in
    omega (arith, load, words)

pub returns-in-Other-clause-loads : goal.returns-in-Other-clause-loads
returns-in-Other-clause-loads g c =
    let load = by_load g.L.Law.meaning g.H.KeyHash.digest c.args.cells.now.table.shared.key c.args.wanted.now c.args.point _ c.aim.ensures _ _ _ c.in-Leaf.ensures.tells in
    let words = by_words _ _ _ c.meet.ensures.compares in
    let put = c.put_branch.ensures.loads in
    omega (arith, load, words, put)

pub returns-in-Other-2-clause-loads : goal.returns-in-Other-2-clause-loads
returns-in-Other-2-clause-loads g c =
    let load = by_load g.L.Law.meaning g.H.KeyHash.digest c.args.cells.now.table.shared.key c.args.wanted.now c.args.point _ c.aim.ensures _ _ _ c.in-Leaf.ensures.tells in
    let words = by_words _ _ _ c.meet.ensures.compares in
    omega (arith, load, words)
