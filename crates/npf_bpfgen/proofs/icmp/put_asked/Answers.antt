use Rattle.std.{proofs.Common.{ℕ, Option, Some, sym, subst}, specs.Prelude.OnOk}
use Rattle.npf_model.specs.Describes.{fits_icmp}
use Rattle.npf_bpfgen.specs.{Premise.GuardsPacket, ProgramLength.icmp_length, Tail.Extends}
use Rattle.npf_bpfgen.proofs.icmp.put_asked.Goals as goal

pub returns-in-Some-clause-front : goal.returns-in-Some-clause-front
returns-in-Some-clause-front c =
    subst (λ (f : Option ℕ). OnOk c.put_type_and_code.result (Extends (icmp_length (Some (c.args.kind, f))) 1 c.args.tail.now c.put_type_and_code.new.tail))
    (sym c.in-Some.is) c.put_type_and_code.ensures.front

pub returns-in-None-clause-front : goal.returns-in-None-clause-front
returns-in-None-clause-front c =
    subst (λ (f : Option ℕ). OnOk c.put_type.result (Extends (icmp_length (Some (c.args.kind, f))) 1 c.args.tail.now c.put_type.new.tail))
    (sym c.in-None.is) c.put_type.ensures.front

pub returns-in-Some-clause-value : goal.returns-in-Some-clause-value
returns-in-Some-clause-value c =
    subst (λ (f : Option ℕ). OnOk c.put_type_and_code.result (GuardsPacket (λ tables facts. fits_icmp (Some (c.args.kind, f)) facts.l4) c.args.tail.now c.put_type_and_code.new.tail))
    (sym c.in-Some.is) c.put_type_and_code.ensures.value

pub returns-in-None-clause-value : goal.returns-in-None-clause-value
returns-in-None-clause-value c =
    subst (λ (f : Option ℕ). OnOk c.put_type.result (GuardsPacket (λ tables facts. fits_icmp (Some (c.args.kind, f)) facts.l4) c.args.tail.now c.put_type.new.tail))
    (sym c.in-None.is) c.put_type.ensures.value
