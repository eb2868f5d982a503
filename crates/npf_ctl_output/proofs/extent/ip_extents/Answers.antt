use Rattle.std.proofs.{Common.{rules, ◌≡◌, ◌+◌, ◌++◌, ◌∙◌, List, [], ◌∷◌, take, ap, sym, subst, arith}, lemmas.List.{take_all, take_more, Elements.All-push}}
use Rattle.std.{proofs.lemmas.Slice.Zip.all_zipped_more, specs.List.AllZip}
use Rattle.npf_traffic.specs.declared.packet.Packet.{Packet}
use Rattle.npf_ctl_output.specs.Extents.{EndsInPacket, IsExtentOf}
use Rattle.npf_ctl_output.proofs.extent.ip_extents.Goals as goal

pub loop-packet-preserved : goal.loop-packet-preserved
loop-packet-preserved c =
    let packets = c.args.packets.now in
    let extents = c.loop-packet.extents.items in
    let i = c.loop-packet.packet-index in
    let packet = c.packet-item.result in
    let extent = c.extent_of.result in
    let more : take (i + 1) packets ≡ take i packets ++ packet ∷ [] =
    take_more packets i packet (omega arith) ∙ ap (λ (p : Packet). take i packets ++ p ∷ []) (sym c.packet-item.is) in
    rw c.push_reserved.ensures.items (record {
      so_far = subst (λ (ps : List Packet). AllZip IsExtentOf ps (extents ++ extent ∷ [])) (sym more)
          (all_zipped_more IsExtentOf (take i packets) extents packet extent c.loop-packet.invariant.so_far c.extent_of.ensures.extent);
      ends = All-push EndsInPacket extents extent c.loop-packet.invariant.ends c.extent_of.ensures.ends;
      room = search rules;
    })

pub returns-clause-extents : goal.returns-clause-extents
returns-clause-extents c =
    subst (λ (ps : List Packet). AllZip IsExtentOf ps c.loop-packet.extents.items) (take_all c.loop-packet.packet-index c.args.packets.now (omega arith)) c.loop-packet.invariant.so_far
