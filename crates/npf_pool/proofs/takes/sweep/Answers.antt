use Rattle.std.proofs.Common.{◌+◌, ◌<◌, ap, ◌∙◌, subst, arith}
use Rattle.npf_cells_words.specs.Layout.{pool_at, pool_places, pool_words}
use Rattle.npf_cells_rule.specs.Stood.{StoodSo}
use Rattle.npf_pool.proofs.TakeLemmas.{free_within, one_more, more_claimed, none_full, none_claimed, sees_then, seen_slots}
use Rattle.npf_pool.proofs.takes.sweep.Goals as goal

pub loop-word-init : goal.loop-word-init
loop-word-init g c = record {
  own = c.requires.own;
  count = c.pool_words-words.ensures ∙ ap (λ l. pool_words (pool_places l c.args.pool)) c.layout.ensures;
  below = λ e. none_full g.L.Law.meaning g.H.KeyHash.digest c.args.cells.now.table.shared.key c.args.pass.now.seat.me;
  claimed = λ e. none_claimed g.L.Law.meaning c.args.cells.now.table.shared.key c.args.pass.now.seat.me;
}

pub loop-word-preserved : goal.loop-word-preserved
loop-word-preserved g c =
    let so = c.loop-word.invariant in
    let key = c.args.cells.now.table.shared.key in
    record {
      own = c.load_pool-found.ensures.own;
      count = so.count;
      below = λ e. one_more g.L.Law.meaning g.H.KeyHash.digest key _ _ _ c.loop-word.word c.load_pool-found.result (so.below e)
          (subst (λ pool. c.loop-word.word < pool_words (pool_places key pool)) e (omega arith)) (omega arith) (c.load_pool-found.ensures.nodes e)
          (subst (λ pool. StoodSo g.L.Law.meaning g.H.KeyHash.digest key c.loop-word.pass.seat.me.0 (pool_at key pool + c.loop-word.word) c.load_pool-found.result) e c.load_pool-found.ensures.stood);
      claimed = λ e. more_claimed g.L.Law.meaning key _ _ _ c.loop-word.word c.load_pool-found.result (so.claimed e) (omega arith) (c.load_pool-found.ensures.slots e);
    }

pub returns-then-found-clause-within : goal.returns-then-found-clause-within
returns-then-found-clause-within g c =
    free_within _ _ _ c.args.pool _ c.loop-word.word c.load_pool-found.result c.lowest_clear.result c.load_pool-found.ensures.stood
    (omega arith) c.lowest_clear.ensures.within c.lowest_clear.ensures.clear

pub returns-then-found-clause-sees : goal.returns-then-found-clause-sees
returns-then-found-clause-sees g c = λ e. sees_then g.L.Law.meaning _ _ _ (c.loop-word.invariant.claimed e).more
    (seen_slots g.L.Law.meaning c.args.cells.now.table.shared.key c.loop-word.word c.load_pool-found.result _ _ (c.load_pool-found.ensures.slots e))
