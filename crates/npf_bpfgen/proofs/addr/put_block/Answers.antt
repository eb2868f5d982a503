use Rattle.std.{proofs.Common.{sym, subst}, specs.Prelude.OnOk}
use Rattle.npf_types.specs.{declared.address.Addr.Addr, Address.shares_first}
use Rattle.npf_bpfgen.specs.{Endpoint.address_of, Premise.BranchesOnPacket}
use Rattle.npf_bpfgen.proofs.addr.put_block.Goals as goal

pub returns-in-V4-clause-value : goal.returns-in-V4-clause-value
returns-in-V4-clause-value c =
    subst (λ (a : Addr). OnOk c.put_block_v4.result (BranchesOnPacket (λ tables facts. shares_first c.args.prefix.len a (address_of c.args.endpoint facts)) c.args.tail.now c.put_block_v4.new.tail))
    (sym c.in-V4.is) c.put_block_v4.ensures.value

pub returns-in-V6-clause-value : goal.returns-in-V6-clause-value
returns-in-V6-clause-value c =
    subst (λ (a : Addr). OnOk c.put_block_v6.result (BranchesOnPacket (λ tables facts. shares_first c.args.prefix.len a (address_of c.args.endpoint facts)) c.args.tail.now c.put_block_v6.new.tail))
    (sym c.in-V6.is) c.put_block_v6.ensures.value
