use Rattle.std.proofs.{Common.{◌≡◌, length, refl, sym, ap, subst, get_or, arith, Contains}, lemmas.List.Elements.Contains-get_or}
use Rattle.npf_cells_rule.specs.Views.{with_pools}
use Rattle.npf_cells_takes.specs.PoolKinds.{giving_back}
use Rattle.npf_trie.proofs.NodeLemmas.{none_given, next_owned, given_more}
use Rattle.npf_trie.proofs.nodes.give_all.Goals as goal

pub loop-node-init : goal.loop-node-init
loop-node-init g c = record { own = c.requires.own; given = none_given c.args.pass.now.seat.me; forgets = λ h. absurd (omega (arith, h)); same = λ _. refl }

pub give_back-requires-clause-place : goal.give_back-requires-clause-place
give_back-requires-clause-place g c =
    c.requires.within (get_or c.as_slice-node-items.result.now c.loop-node.node-index 0)
    (subst (λ xs. Contains xs (get_or c.as_slice-node-items.result.now c.loop-node.node-index 0)) c.as_slice-node-items.ensures.value
    (Contains-get_or c.as_slice-node-items.result.now c.loop-node.node-index 0 (omega arith)))

pub give_back-requires-clause-owned : goal.give_back-requires-clause-owned
give_back-requires-clause-owned g c =
    subst (λ xs. Contains c.loop-node.pass.seat.me.0.pools.nodes (get_or xs c.loop-node.node-index 0)) (sym c.as_slice-node-items.ensures.value)
    (next_owned c.args.nodes.now.items c.loop-node.node-index c.args.pass.now.seat.me c.loop-node.pass.seat.me
    (omega (arith, ap length c.as_slice-node-items.ensures.value)) c.requires.apart c.requires.owned c.loop-node.invariant.given)

pub loop-node-preserved : goal.loop-node-preserved
loop-node-preserved g c = record {
  own = c.give_back.ensures.own;
  given = given_more c.args.nodes.now.items c.loop-node.node-index c.args.pass.now.seat.me c.loop-node.pass.seat.me c.give_back.new.pass.seat.me
      (omega (arith, ap length c.as_slice-node-items.ensures.value)) c.loop-node.invariant.given
      (subst (λ xs. c.give_back.new.pass.seat.me ≡ with_pools c.loop-node.pass.seat.me
      (giving_back (get_or xs c.loop-node.node-index 0) c.loop-node.pass.seat.me.0.pools c.give_back.new.pass.seat.me.0.pools.found)) c.as_slice-node-items.ensures.value c.give_back.ensures.next);
  forgets = λ _. grind (arith, c.give_back.ensures.next);
  same = λ h. absurd (omega (arith, h));
}
