use Rattle.std.proofs.Common.{◌≡◌, ◌∙◌, false, ap}
use Rattle.npf_cells_words.specs.declared.layout.Layout.{Layout}
use Rattle.npf_cells_rule.{specs.Passes.is_pinned, proofs.PassLemmas.pinned_in}
use Rattle.npf_conndb.proofs.PassLemmas.{stays_pinned}
use Rattle.npf_conndb.proofs.RegainLemmas.{regains_none, still_protected, still_nodeless, regains_more, regained_stays, regained_seats}
use Rattle.npf_conndb.proofs.StayLemmas.{entered_pass, entered_between}
use Rattle.npf_conndb.proofs.collect.regain_nodes.Goals as goal

pub loop-node-init : goal.loop-node-init
loop-node-init g c =
    let e = c.enter.ensures in
    let out : is_pinned c.args.pass.now.seat.me.0.epochs.pin ≡ false = ap is_pinned c.requires.out in
    let load = c.load_epoch-epoch.ensures in
    record {
      own = load.own;
      sized = ap (λ (l : Layout). l.nodes) c.layout-nodes.ensures;
      regains = regains_none g.L.Law.meaning c.load_epoch-epoch.result c.args.pass.now.seat.me c.enter.new.pass.seat.me c.load_epoch-epoch.new.pass.seat.me e.same e.protected e.enters
          (entered_pass g.L.Law.meaning _ _ e.same e.protected e.enters c.requires.legal)
          (entered_between g.L.Law.meaning _ _ e.same e.protected e.enters (c.requires.legal.idle out) c.requires.between)
          load.met load.next;
    }

pub regain-requires-clause-protected : goal.regain-requires-clause-protected
regain-requires-clause-protected g c = still_protected g.L.Law.meaning _ _ _ c.loop-node.invariant.regains

pub regain-requires-clause-unlocked : goal.regain-requires-clause-unlocked
regain-requires-clause-unlocked g c = c.loop-node.invariant.regains.stays.between.unlocked

pub regain-requires-clause-reached : goal.regain-requires-clause-reached
regain-requires-clause-reached g c = c.loop-node.invariant.regains.reached

pub regain-requires-clause-nodes : goal.regain-requires-clause-nodes
regain-requires-clause-nodes g c = still_nodeless g.L.Law.meaning _ _ _ c.loop-node.invariant.regains

pub loop-node-preserved : goal.loop-node-preserved
loop-node-preserved g c = record {
  own = c.regain.ensures.own;
  sized = c.loop-node.invariant.sized;
  regains = regains_more g.L.Law.meaning _ _ _ c.loop-node.invariant.regains _ c.regain.result c.regain.ensures.returns;
}

pub leave-requires-clause-pinned : goal.leave-requires-clause-pinned
leave-requires-clause-pinned g c = stays_pinned _ (pinned_in _ (still_protected g.L.Law.meaning _ _ _ c.loop-node.invariant.regains))

pub leave-requires-clause-unlocked : goal.leave-requires-clause-unlocked
leave-requires-clause-unlocked g c = c.loop-node.invariant.regains.stays.between.unlocked

pub returns-clause-stays : goal.returns-clause-stays
returns-clause-stays g c = regained_stays g.L.Law.meaning _ _ _ c.loop-node.invariant.regains _ c.requires.legal c.requires.out (ap (λ seat. seat.me) c.forget_left.ensures.seat ∙ c.leave.ensures.next)

pub returns-clause-same : goal.returns-clause-same
returns-clause-same g c = regained_seats g.L.Law.meaning _ _ _ c.loop-node.invariant.regains _ (ap (λ seat. seat.me) c.forget_left.ensures.seat ∙ c.leave.ensures.next)
