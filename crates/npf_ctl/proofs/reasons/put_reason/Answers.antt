use Rattle.std.proofs.Common.{ℕ, List, inl, inr, subst}
use Rattle.npf_outside.specs.Sink.{Appends, AppendsFront}
use Rattle.npf_ctl.specs.Ends.{AnswersReason}
use Rattle.npf_ctl.proofs.reasons.put_reason.Goals as goal

pub returns-in-Ok : goal.returns-in-Ok
returns-in-Ok g c =
    let old = g.O.Sink.moment c.args.out.now in
    let new = g.O.Sink.moment c.put_flushed.new.sink in
    AnswersReason.said (inl (subst (λ (text : List ℕ). Appends old.held new.held text) c.as_slice.ensures.value c.in-Ok.ensures.whole)) (inl c.in-Ok.ensures.flushed)

pub returns-in-Err-Failed : goal.returns-in-Err-Failed
returns-in-Err-Failed g c =
    let old = g.O.Sink.moment c.args.out.now in
    let new = g.O.Sink.moment c.put_flushed.new.sink in
    let rose = c.put_flushed.ensures.failed (cc) in
    AnswersReason.said (inr (rose, subst (λ (text : List ℕ). AppendsFront old.held new.held text) c.as_slice.ensures.value c.put_flushed.ensures.front)) (inr rose)

pub returns-in-Err-NoMemory : goal.returns-in-Err-NoMemory
returns-in-Err-NoMemory g c = AnswersReason.unsaid (c.put_flushed.ensures.memory (cc))
