use Rattle.std.proofs.{Common.{◌≡◌, ◌∙◌, ◌<◌, ◌∷◌, [], ℕ, Contains, length, reverse, refl, ap, subst, sym, arith}, lemmas.List.length-append}
use Rattle.npf_paths.specs.LevelLaw.{AreApart}
use Rattle.npf_cells_rule.specs.Views.{with_pools}
use Rattle.npf_trie.proofs.NodeLemmas.{within_more, apart_more, taken_more, taken_owned, taken_all}
use Rattle.npf_trie.proofs.nodes.take_nodes.Goals as goal

pub give_all-requires-clause-owned : goal.give_all-requires-clause-owned
give_all-requires-clause-owned g c = taken_owned c.loop.nodes.items c.take.new.pass.seat.me.0.pools.nodes
    (ap (λ y. y.0.pools.nodes) (c.in-None.ensures.none refl) ∙ ap (λ y. y.0.pools.nodes) c.loop.invariant.taken)

pub give_all-requires-clause-all : goal.give_all-requires-clause-all
give_all-requires-clause-all g c = taken_all c.loop.nodes.items c.take.new.pass.seat.me.0.pools.nodes
    (ap (λ y. y.0.pools.nodes) (c.in-None.ensures.none refl) ∙ ap (λ y. y.0.pools.nodes) c.loop.invariant.taken)

pub loop-preserved : goal.loop-preserved
loop-preserved g c =
    record {
      own = c.in-Some.ensures.own;
      counted = ap length c.push.ensures.items ∙ omega (arith, c.loop.invariant.counted, length-append c.loop.nodes.items (c.in-Some.node ∷ []));
      within = subst (λ xs. (n : ℕ) → Contains xs n → n < c.args.cells.now.table.shared.key.nodes) (sym c.push.ensures.items)
          (within_more c.loop.nodes.items c.in-Some.node c.args.cells.now.table.shared.key.nodes c.loop.invariant.within c.in-Some.ensures.within);
      apart = subst AreApart (sym c.push.ensures.items) (apart_more c.loop.nodes.items c.in-Some.node c.loop.invariant.apart
          (subst (λ ns. ¬ Contains ns c.in-Some.node) (ap (λ y. y.0.pools.nodes) c.loop.invariant.taken) (c.in-Some.ensures.unowned refl)));
      taken = subst (λ xs. c.take.new.pass.seat.me ≡ with_pools c.args.pass.now.seat.me (record c.args.pass.now.seat.me.0.pools {
        found = c.take.new.pass.seat.me.0.pools.found;
        row = c.take.new.pass.seat.me.0.pools.row;
        nodes = reverse xs;
      })) (sym c.push.ensures.items)
          (taken_more c.loop.nodes.items c.in-Some.node c.args.pass.now.seat.me c.loop.pass.seat.me c.take.new.pass.seat.me c.loop.invariant.taken (c.in-Some.ensures.takes refl));
    }

pub returns-clause-takes : goal.returns-clause-takes
returns-clause-takes g c = record {
  counted = omega (arith, c.loop.invariant.counted);
  within = c.loop.invariant.within;
  apart = c.loop.invariant.apart;
  owned = taken_owned c.loop.nodes.items c.loop.pass.seat.me.0.pools.nodes (ap (λ y. y.0.pools.nodes) c.loop.invariant.taken);
  all = taken_all c.loop.nodes.items c.loop.pass.seat.me.0.pools.nodes (ap (λ y. y.0.pools.nodes) c.loop.invariant.taken);
  is = c.loop.invariant.taken;
}
