use Rattle.std.proofs.Common.{◌≡◌, ℕ, subst, map, length, arith}
use Rattle.npf_pieces.specs.Sets.{set_at}
use Rattle.npf_reass_sets.{specs.Found.HasFound, proofs.DecideLemmas.found_more}
use Rattle.npf_reass_sets.proofs.class.sets_by_key.Goals as goal

pub loop-from-preserved : goal.loop-from-preserved
loop-from-preserved c =
    let inv = c.loop-from.invariant in
    let run = c.key_end-to.ensures in
    let all = c.args.arrived.now in
    record {
      within = run.within;
      reached = omega (arith, c.in_ok-find.ensures.reached);
      places = c.in_ok-find.ensures.within;
      found = λ old sorts.
          found_more old all sorts c.loop-from.from c.key_end-to.result (map (set_at all) c.loop-from.sets.items) (map (set_at all) c.find.new.sets.items)
          (inv.found old sorts) run c.in_ok-find.ensures.found;
    }

pub returns-clause-found : goal.returns-clause-found
returns-clause-found c = λ old sorts.
    let all = c.args.arrived.now in
    let e : c.loop-from.from ≡ length all = omega (arith, c.loop-from.invariant.within, c.loop-from-test.false) in
    subst (λ (n : ℕ). HasFound old all n (map (set_at all) c.loop-from.sets.items)) e (c.loop-from.invariant.found old sorts)
