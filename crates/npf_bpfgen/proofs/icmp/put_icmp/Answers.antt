use Rattle.std.{proofs.Common.{ℕ, Option, sym, subst}, specs.Prelude.OnOk}
use Rattle.npf_model.specs.Describes.{fits_icmp}
use Rattle.npf_bpfgen.{specs.{Premise.GuardsPacket, ProgramLength.icmp_length, Tail.Extends}, proofs.TailLemmas.unchanged}
use Rattle.npf_bpfgen.proofs.icmp.put_icmp.Goals as goal

pub returns-in-Some-clause-front : goal.returns-in-Some-clause-front
returns-in-Some-clause-front c =
    subst (λ (f : Option (ℕ × Option ℕ)). OnOk c.put_asked.result (Extends (icmp_length f) 1 c.args.tail.now c.put_asked.new.tail)) (sym c.in-Some.is) c.put_asked.ensures.front

pub returns-in-None-clause-front : goal.returns-in-None-clause-front
returns-in-None-clause-front c =
    subst (λ (f : Option (ℕ × Option ℕ)). Extends (icmp_length f) 1 c.args.tail.now c.args.tail.now) (sym c.in-None.is) (unchanged c.args.tail.now)

pub returns-in-Some-clause-value : goal.returns-in-Some-clause-value
returns-in-Some-clause-value c =
    subst (λ (f : Option (ℕ × Option ℕ)). OnOk c.put_asked.result (GuardsPacket (λ tables facts. fits_icmp f facts.l4) c.args.tail.now c.put_asked.new.tail))
    (sym c.in-Some.is) c.put_asked.ensures.value
