use Rattle.std.proofs.Common.{ℕ, ◌∙◌, ◌++◌, ◌∷◌, [], ap, sym, get_or, arith}
use Rattle.npf_products.specs.declared.packet.CellPacket.{CellPacket}
use Rattle.npf_ctl_witnesses.specs.Alike.{leads}
use Rattle.npf_ctl_witnesses.proofs.{AnyPacket.any_packet, NumberedLemmas.{kept_more, left_more}}
use Rattle.npf_ctl_witnesses.proofs.alike.leaders.Goals as goal
use Rattle.npf_ctl_witnesses.proofs.alike.leaders.Goals.{then-is_leader+in_ok-push, else-is_leader}

pub loop-place-preserved : goal.loop-place-preserved
loop-place-preserved c =
    let ifaces = c.args.ifaces.now in
    let packets = c.args.packets.now in
    let i = c.loop-place.place in
    let packet_of : ℕ × CellPacket → CellPacket = λ placed. placed.1 in
    elim c.if-is_leader.branch [
      | then-is_leader+in_ok-push w ↦
          ap (λ v. v.items) w.found-is ∙ w.in_ok-push.ensures.items
          ∙ ap (λ all. all ++ get_or packets i any_packet ∷ []) c.loop-place.invariant
          ∙ sym (kept_more (leads ifaces packets) packet_of 0 packets i i any_packet (omega (arith, c.loop-place-test.true)) (omega arith) (sym c.is_leader.ensures ∙ w.if-is_leader.true))
      | else-is_leader w ↦
          ap (λ v. v.items) w.found-is ∙ c.loop-place.invariant
          ∙ sym (left_more (leads ifaces packets) packet_of 0 packets i i any_packet (omega (arith, c.loop-place-test.true)) (omega arith) (sym c.is_leader.ensures ∙ w.if-is_leader.false))
    ]
