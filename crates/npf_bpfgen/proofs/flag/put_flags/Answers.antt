use Rattle.std.{proofs.Common.{ℕ, Option, sym, subst}, specs.Prelude.OnOk}
use Rattle.npf_model.specs.Describes.{fits_flags}
use Rattle.npf_bpfgen.specs.{Premise.GuardsPacket, ProgramLength.flags_length, Tail.Extends}
use Rattle.npf_bpfgen.proofs.flag.put_flags.Goals as goal

pub returns-in-Some-clause-front : goal.returns-in-Some-clause-front
returns-in-Some-clause-front c =
    subst (λ (f : Option (ℕ × ℕ)). OnOk c.put_segment.result (Extends (flags_length f c.args.decision c.args.state) 1 c.args.tail.now c.put_segment.new.tail))
    (sym c.in-Some.is) c.put_segment.ensures.front

pub returns-in-Some-clause-value : goal.returns-in-Some-clause-value
returns-in-Some-clause-value c =
    subst (λ (f : Option (ℕ × ℕ)). OnOk c.put_segment.result (GuardsPacket (λ tables facts. fits_flags f c.args.decision c.args.state facts.l4) c.args.tail.now c.put_segment.new.tail))
    (sym c.in-Some.is) c.put_segment.ensures.value

pub returns-in-None-clause-front : goal.returns-in-None-clause-front
returns-in-None-clause-front c =
    subst (λ (f : Option (ℕ × ℕ)). OnOk c.put_kept.result (Extends (flags_length f c.args.decision c.args.state) 1 c.args.tail.now c.put_kept.new.tail))
    (sym c.in-None.is) c.put_kept.ensures.front

pub returns-in-None-clause-value : goal.returns-in-None-clause-value
returns-in-None-clause-value c =
    subst (λ (f : Option (ℕ × ℕ)). OnOk c.put_kept.result (GuardsPacket (λ tables facts. fits_flags f c.args.decision c.args.state facts.l4) c.args.tail.now c.put_kept.new.tail))
    (sym c.in-None.is) c.put_kept.ensures.value
