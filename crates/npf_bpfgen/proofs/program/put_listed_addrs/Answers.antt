use Rattle.std.{proofs.Common.{Bool, Option, List, Some, true, false, sym, subst}, specs.Prelude.OnOk}
use Rattle.npf_model.specs.{declared.ends.AddrItem.AddrItem, Describes.fits_addrs}
use Rattle.npf_bpfgen.specs.{Endpoint.address_of, Premise.GuardsPacket}
use Rattle.npf_bpfgen.proofs.program.put_listed_addrs.Goals as goal

pub returns-in-Some-clause-value : goal.returns-in-Some-clause-value
returns-in-Some-clause-value c =
    let result = c.put_excluded.result in
    let old = c.args.tail.now in
    let new = c.put_excluded.new.tail in
    subst (λ (b : Bool). OnOk result (GuardsPacket (λ tables facts. fits_addrs b c.args.addrs.now tables (address_of c.args.endpoint facts)) old new)) (sym c.if-excluded.true)
    (subst (λ (f : Option (List AddrItem)). OnOk result (GuardsPacket (λ tables facts. fits_addrs true f tables (address_of c.args.endpoint facts)) old new)) (sym c.in-Some.is)
    (subst (λ (f : List AddrItem). OnOk result (GuardsPacket (λ tables facts. fits_addrs true (Some f) tables (address_of c.args.endpoint facts)) old new))
    c.as_slice.ensures c.put_excluded.ensures.value))

pub returns-in-Some-2-clause-value : goal.returns-in-Some-2-clause-value
returns-in-Some-2-clause-value c =
    let result = c.put_addrs.result in
    let old = c.args.tail.now in
    let new = c.put_addrs.new.tail in
    subst (λ (b : Bool). OnOk result (GuardsPacket (λ tables facts. fits_addrs b c.args.addrs.now tables (address_of c.args.endpoint facts)) old new)) (sym c.if-excluded.false)
    (subst (λ (f : Option (List AddrItem)). OnOk result (GuardsPacket (λ tables facts. fits_addrs false f tables (address_of c.args.endpoint facts)) old new)) (sym c.in-Some-2.is)
    (subst (λ (f : List AddrItem). OnOk result (GuardsPacket (λ tables facts. fits_addrs false (Some f) tables (address_of c.args.endpoint facts)) old new))
    c.as_slice-in-Some-2.ensures c.put_addrs.ensures.value))
