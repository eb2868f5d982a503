use Rattle.std.{proofs.Common.{sym, subst}, specs.Prelude.OnOk}
use Rattle.npf_model.specs.{declared.ends.AddrItem.AddrItem, Describes.item_has}
use Rattle.npf_bpfgen.specs.{Endpoint.address_of, Premise.BranchesOnPacket}
use Rattle.npf_bpfgen.proofs.addr.put_item.Goals as goal

pub returns-in-Net-clause-value : goal.returns-in-Net-clause-value
returns-in-Net-clause-value c =
    subst (λ (i : AddrItem). OnOk c.put_block.result (BranchesOnPacket (λ tables facts. item_has tables (address_of c.args.endpoint facts) i) c.args.tail.now c.put_block.new.tail))
    (sym c.in-Net.is) c.put_block.ensures.value
