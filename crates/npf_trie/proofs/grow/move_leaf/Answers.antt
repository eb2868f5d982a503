use Rattle.std.proofs.Common.{◌≡◌, [], ap, subst, arith}
use Rattle.npf_cells_rule.specs.Passes.{CarriesByTurn}
use Rattle.npf_trie.proofs.HangLemmas.{grown_turned, turn_turned, protected_turned, free_turned, ends_nothing, ended_so}
use Rattle.npf_trie.proofs.grow.move_leaf.Goals as goal

pub hang_locked-step-requires-clause-protected : goal.hang_locked-step-requires-clause-protected
hang_locked-step-requires-clause-protected g c =
    let carried : c.args.pass.now.seat.me.1 ≡ [] = subst (λ t. CarriesByTurn t c.args.pass.now.seat.me.1) c.requires.turnless c.requires.own.carries in
    protected_turned g.L.Law.meaning g.H.KeyHash.digest c.args.cells.now.table.shared.key c.args.wanted.now c.args.point c.args.branch.now.other.slot
    c.args.pass.now.seat.me c.wait_turn.new.pass.seat.me c.requires.turnless carried c.wait_turn.ensures.takes c.requires.protected

pub hang_locked-step-requires-clause-free : goal.hang_locked-step-requires-clause-free
hang_locked-step-requires-clause-free g c =
    let carried : c.args.pass.now.seat.me.1 ≡ [] = subst (λ t. CarriesByTurn t c.args.pass.now.seat.me.1) c.requires.turnless c.requires.own.carries in
    free_turned g.L.Law.meaning g.H.KeyHash.digest c.args.cells.now.table.shared.key c.args.wanted.now c.args.point c.args.branch.now.other.slot
    c.args.pass.now.seat.me c.wait_turn.new.pass.seat.me c.requires.turnless carried c.wait_turn.ensures.takes c.requires.free

pub hang_locked-step-requires-clause-turn : goal.hang_locked-step-requires-clause-turn
hang_locked-step-requires-clause-turn g c =
    let carried : c.args.pass.now.seat.me.1 ≡ [] = subst (λ t. CarriesByTurn t c.args.pass.now.seat.me.1) c.requires.turnless c.requires.own.carries in
    turn_turned g.L.Law.meaning g.H.KeyHash.digest c.args.cells.now.table.shared.key c.args.wanted.now c.args.point c.args.branch.now.other.slot
    c.args.pass.now.seat.me c.wait_turn.new.pass.seat.me c.requires.turnless carried c.wait_turn.ensures.takes

pub hang_locked-step-requires-clause-grown : goal.hang_locked-step-requires-clause-grown
hang_locked-step-requires-clause-grown g c =
    let carried : c.args.pass.now.seat.me.1 ≡ [] = subst (λ t. CarriesByTurn t c.args.pass.now.seat.me.1) c.requires.turnless c.requires.own.carries in
    grown_turned g.L.Law.meaning g.H.KeyHash.digest c.args.cells.now.table.shared.key c.args.wanted.now c.args.point c.args.branch.now.other.slot
    c.args.pass.now.seat.me c.wait_turn.new.pass.seat.me c.requires.turnless carried c.wait_turn.ensures.takes c.args.branch.now c.requires.grown

pub end_turn-requires-clause-may : goal.end_turn-requires-clause-may
end_turn-requires-clause-may g c =
    let carried : c.args.pass.now.seat.me.1 ≡ [] = subst (λ t. CarriesByTurn t c.args.pass.now.seat.me.1) c.requires.turnless c.requires.own.carries in
    ends_nothing g.L.Law.meaning g.H.KeyHash.digest c.args.cells.now.table.shared.key c.args.wanted.now c.args.point c.args.branch.now.other.slot
    c.args.pass.now.seat.me c.wait_turn.new.pass.seat.me c.requires.turnless carried c.wait_turn.ensures.takes
    c.hang_locked-step.new.pass.seat.me c.hang_locked-step.result c.hang_locked-step.ensures.hangs

pub returns-clause-hangs : goal.returns-clause-hangs
returns-clause-hangs g c =
    let carried : c.args.pass.now.seat.me.1 ≡ [] = subst (λ t. CarriesByTurn t c.args.pass.now.seat.me.1) c.requires.turnless c.requires.own.carries in
    ended_so g.L.Law.meaning g.H.KeyHash.digest c.args.cells.now.table.shared.key c.args.wanted.now c.args.point c.args.branch.now.other.slot c.args.pass.now.seat.me
    c.wait_turn.new.pass.seat.me c.requires.turnless carried c.wait_turn.ensures.takes c.hang_locked-step.new.pass.seat.me
    c.end_turn.new.pass.seat.me c.end_turn.ensures.tells c.hang_locked-step.result c.hang_locked-step.ensures.hangs

pub returns-clause-loads : goal.returns-clause-loads
returns-clause-loads g c =
    let took = ap (λ me. me.0.trie.places) c.wait_turn.ensures.takes.is in
    let hung = c.hang_locked-step.ensures.loads in
    let now = ap (λ me. me.0.trie.places) c.end_turn.ensures.tells in
    omega (arith, took, hung, now)
