use Rattle.std.proofs.Common.{◌+◌, sym, ap, subst, ◌∙◌}
use Rattle.npf_core.{specs.{Copying.IsKept, History.state_of, Machine.IsLive, declared.entry.Entry.Entry}, proofs.HolderLemmas.hold_one_a_way}
use Rattle.npf_connections.specs.Pass.{Pass}
use Rattle.npf_flow.specs.{declared.{flow.Flow.Flow, step.{FlowArg.FlowArg, FlowReply.FlowReply}}, Flows.flow_law}
use Rattle.npf_connsave.{specs.Copied.AreCopied, proofs.CopyLemmas.{keyless_more, one_more, vacant_more}}
use Rattle.npf_connsave.proofs.saves.copies.Goals as goal
use Rattle.npf_connsave.proofs.saves.copies.Goals.{in-Some-saved_of+in_ok-push, in_default-saved_of}

pub loop-slot-preserved-in_default : goal.loop-slot-preserved-in_default
loop-slot-preserved-in_default g c =
    let k = state_of flow_law (g.C.Connections.view c.args.pass.now).history in
    record {
      out = c.copy_slot.ensures.out;
      same = c.copy_slot.ensures.same ∙ c.loop-slot.invariant.same;
      copied = vacant_more k c.loop-slot.saved.items c.loop-slot.slot c.loop-slot.invariant.copied
          (subst (λ (view : Pass (Entry Flow FlowArg FlowReply)). ¬ IsLive ((state_of flow_law view.history).slot c.loop-slot.slot).stage) c.loop-slot.invariant.same c.in_default.ensures.copies);
    }

pub loop-slot-preserved : goal.loop-slot-preserved
loop-slot-preserved g c =
    let k = state_of flow_law (g.C.Connections.view c.args.pass.now).history in
    let conns = c.loop-slot.saved.items in
    let slot = c.loop-slot.slot in
    let kept = c.in-Some.kept in
    let is = subst (λ (view : Pass (Entry Flow FlowArg FlowReply)). IsKept (state_of flow_law view.history) slot kept) c.loop-slot.invariant.same c.in-Some.ensures.copies in
    let one = hold_one_a_way flow_law (g.C.Connections.view c.args.pass.now).slots (g.C.Connections.view c.args.pass.now).history c.requires.out.legal.legal in
    record {
      out = c.copy_slot.ensures.out;
      same = c.copy_slot.ensures.same ∙ c.loop-slot.invariant.same;
      copied = elim c.match-saved_of.branch [
        | in-Some-saved_of+in_ok-push w ↦
            subst (AreCopied k (slot + 1)) (sym (ap (λ (v : _). v.items) w.saved-is ∙ w.in_ok-push.ensures.items))
            (one_more k conns slot c.loop-slot.invariant.copied one kept w.in-Some-saved_of.conn is (sym w.in-Some-saved_of.ensures))
        | in_default-saved_of w ↦
            subst (AreCopied k (slot + 1)) (sym (ap (λ (v : _). v.items) w.saved-is)) (keyless_more k conns slot c.loop-slot.invariant.copied kept is (sym w.in_default-saved_of.ensures))
      ];
    }
