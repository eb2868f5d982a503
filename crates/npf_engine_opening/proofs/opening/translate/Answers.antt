use Rattle.std.proofs.Common.{ℕ, Ok, Err, List, [], ◌∷◌, subst}
use Rattle.npf_types.specs.declared.key.Way.{Way}
use Rattle.npf_engine_opening.specs.{declared.start.Changes.Changes, Draw.Draws, Opening.Translates, Saying.abandon_said, Start.StartsConnection}
use Rattle.npf_engine_opening.proofs.SayingLemmas.{did_end, did_second, does_both}
use Rattle.npf_engine_opening.proofs.opening.translate.Goals as goal

pub returns-in-Fixed-clause-translates : goal.returns-in-Fixed-clause-translates
returns-in-Fixed-clause-translates g c = record {
  said = c.start.ensures.starts.said;
  described = Translates.fixed c.in-Fixed.there c.in-Fixed.back _ c.start.result c.in-Fixed.is c.start.ensures.starts.described;
  did = c.start.ensures.starts.did;
}

pub returns-in-Ok-clause-translates : goal.returns-in-Ok-clause-translates
returns-in-Ok-clause-translates g c =
    does_both _ _ _ c.in-Ok.ensures.draws c.start-in-Ok.ensures.starts
    (λ draws starts drew started.
    Translates.drawn c.in-Draw.addr c.in-Draw.min c.in-Draw.max c.in-Draw.first c.in-Ok.port draws starts c.start-in-Ok.result c.in-Draw.is
    (subst (λ (ports : List ℕ). Draws c.args.id c.in-Draw.addr ports draws (Ok c.in-Ok.port)) c.candidates.ensures drew)
    (subst (λ (changes : Changes). StartsConnection c.args.attempt.now c.args.id changes starts c.start-in-Ok.result) c.drawn_changes-changes.ensures started))

pub returns-in-Err-clause-translates : goal.returns-in-Err-clause-translates
returns-in-Err-clause-translates g c =
    did_second _ _ _ (abandon_said c.args.id (Way.Forward ∷ [])) c.in-Err.ensures.draws
    (did_end _ _ c.args.id (Way.Forward ∷ []) c.in-Err.ensures.ways c.abandon.ensures.adds c.abandon.ensures.view)
    (λ draws drew.
    Translates.undrawn c.in-Draw.addr c.in-Draw.min c.in-Draw.max c.in-Draw.first c.in-Err.why draws c.in-Draw.is
    (subst (λ (ports : List ℕ). Draws c.args.id c.in-Draw.addr ports draws (Err c.in-Err.why)) c.candidates.ensures drew))
