use Rattle.std.{proofs.Common.{Bool, Option, sym, subst}, specs.Prelude.OnOk}
use Rattle.npf_model.specs.Describes.{fits_family}
use Rattle.npf_bpfgen.{specs.{Premise.GuardsPacket, ProgramLength.family_length, Tail.Extends}, proofs.TailLemmas.unchanged}
use Rattle.npf_bpfgen.proofs.header.put_family.Goals as goal

pub returns-in-Some-clause-front : goal.returns-in-Some-clause-front
returns-in-Some-clause-front c =
    subst (λ (f : Option Bool). OnOk c.put_version.result (Extends (family_length f) 1 c.args.tail.now c.put_version.new.tail)) (sym c.in-Some.is) c.put_version.ensures.front

pub returns-in-Some-clause-value : goal.returns-in-Some-clause-value
returns-in-Some-clause-value c =
    subst (λ (f : Option Bool). OnOk c.put_version.result (GuardsPacket (λ tables facts. fits_family f facts.src) c.args.tail.now c.put_version.new.tail))
    (sym c.in-Some.is) c.put_version.ensures.value

pub returns-in-None-clause-front : goal.returns-in-None-clause-front
returns-in-None-clause-front c =
    subst (λ (f : Option Bool). Extends (family_length f) 1 c.args.tail.now c.args.tail.now) (sym c.in-None.is) (unchanged c.args.tail.now)
