use Rattle.std.proofs.Common.{ap, subst, arith}
use Rattle.npf_cells_rule.specs.Passes.{CarriesByTurn}
use Rattle.npf_turn.specs.Reclaims.{IsLongLeft, HasReclaimed}
use Rattle.npf_conndb.proofs.{CollectLemmas.{kept_so, reclaimed_so}, SlotVisitLemmas.{tried_early, tried_so}}
use Rattle.npf_conndb.proofs.collect.collect_slot.Goals as goal
use Rattle.npf_conndb.proofs.collect.collect_slot.Goals.{then-note-lt-EPOCHS-via-then-note-lt-EPOCHS, then-note-lt-EPOCHS-via-else-note-lt-EPOCHS+then-note-epoch}

pub returns-then-note-lt-EPOCHS-clause-collects : goal.returns-then-note-lt-EPOCHS-clause-collects
returns-then-note-lt-EPOCHS-clause-collects g c =
    kept_so g.L.Law.meaning g.H.KeyHash.digest c.args.cells.now.table.shared.key c.args.slot c.args.pass.now.seat.me
    c.requires.between c.requires.legal c.requires.own.lives c.requires.own.theirs c.requires.exists
    _ c.load_word-note.ensures.same
    (subst (λ t. CarriesByTurn t c.args.pass.now.seat.me.1) c.requires.between.turnless c.requires.own.carries) c.load_word-note.result c.load_word-note.ensures.stood early
  where
    early : IsLongLeft c.load_word-note.result c.args.pass.now.seat.me.0.epochs.loaded → ⊥
    early long =
        let left = long.left in
        let later = long.long in
        let loaded = c.requires.loaded in
        elim c.then-note-lt-EPOCHS.branch [
          | then-note-lt-EPOCHS-via-then-note-lt-EPOCHS w ↦ (let low = w.if-note-lt-EPOCHS.true in omega (arith, left, low))
          | then-note-lt-EPOCHS-via-else-note-lt-EPOCHS+then-note-epoch w ↦ (let high = w.if-note-lt-EPOCHS.false in let soon = w.if-note-epoch.true in omega (arith, left, later, loaded, high, soon))
        ]

pub returns-clause-collects : goal.returns-clause-collects
returns-clause-collects g c =
    reclaimed_so g.L.Law.meaning g.H.KeyHash.digest c.args.cells.now.table.shared.key c.args.slot c.args.pass.now.seat.me
    c.requires.between c.requires.legal c.requires.own.lives c.requires.own.theirs c.requires.exists
    c.args.epoch c.requires.loaded c.reclaim.result _
    (subst (λ y. HasReclaimed g.L.Law.meaning g.H.KeyHash.digest c.args.cells.now.table.shared.key c.args.slot c.args.epoch c.reclaim.result y c.reclaim.new.pass.seat.me)
    c.load_word-note.ensures.same c.reclaim.ensures.reclaims)

pub returns-then-note-lt-EPOCHS-clause-tries : goal.returns-then-note-lt-EPOCHS-clause-tries
returns-then-note-lt-EPOCHS-clause-tries g c =
    tried_early g.L.Law.meaning g.H.KeyHash.digest c.args.cells.now.table.shared.key c.args.slot c.args.pass.now.seat.me.0 _
    (ap (λ y. y.0) c.load_word-note.ensures.same) c.load_word-note.result c.load_word-note.ensures.stood early
  where
    early : IsLongLeft c.load_word-note.result c.args.pass.now.seat.me.0.epochs.loaded → ⊥
    early long =
        let left = long.left in
        let later = long.long in
        let loaded = c.requires.loaded in
        elim c.then-note-lt-EPOCHS.branch [
          | then-note-lt-EPOCHS-via-then-note-lt-EPOCHS w ↦ (let low = w.if-note-lt-EPOCHS.true in omega (arith, left, low))
          | then-note-lt-EPOCHS-via-else-note-lt-EPOCHS+then-note-epoch w ↦ (let high = w.if-note-lt-EPOCHS.false in let soon = w.if-note-epoch.true in omega (arith, left, later, loaded, high, soon))
        ]

pub returns-clause-tries : goal.returns-clause-tries
returns-clause-tries g c =
    tried_so g.L.Law.meaning g.H.KeyHash.digest c.args.cells.now.table.shared.key c.args.slot c.args.epoch c.args.pass.now.seat.me c.requires.between.turnless c.requires.loaded c.reclaim.result _
    (subst (λ y. HasReclaimed g.L.Law.meaning g.H.KeyHash.digest c.args.cells.now.table.shared.key c.args.slot c.args.epoch c.reclaim.result y c.reclaim.new.pass.seat.me)
    c.load_word-note.ensures.same c.reclaim.ensures.reclaims)
