use Rattle.std.{proofs.Common.{ℕ, Option, List, Some, sym, subst}, specs.Prelude.OnOk}
use Rattle.npf_model.specs.Describes.{fits_ports}
use Rattle.npf_bpfgen.specs.{Endpoint.port_of, Premise.GuardsPacket}
use Rattle.npf_bpfgen.proofs.program.put_listed_ports.Goals as goal

pub returns-in-Some-clause-value : goal.returns-in-Some-clause-value
returns-in-Some-clause-value c =
    subst (λ (f : Option (List (ℕ × ℕ))). OnOk c.put_ports.result (GuardsPacket (λ tables facts. fits_ports f (port_of c.args.endpoint facts.l4)) c.args.tail.now c.put_ports.new.tail))
    (sym c.in-Some.is)
    (subst (λ (f : List (ℕ × ℕ)). OnOk c.put_ports.result (GuardsPacket (λ tables facts. fits_ports (Some f) (port_of c.args.endpoint facts.l4)) c.args.tail.now c.put_ports.new.tail))
    c.as_slice.ensures c.put_ports.ensures.value)
