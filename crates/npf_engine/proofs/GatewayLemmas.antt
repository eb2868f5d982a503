-- What an error asked for what it quotes.
use Rattle.std.{proofs.Common.{◌≡◌, ℕ, Bool, true, false, List, [], Option, Some, None, refl}, specs.Prelude.if◌then◌else◌}
use Rattle.npf_types.specs.declared.{facts.Facts.Facts, key.Key.Key}
use Rattle.npf_flow.specs.declared.step.FlowArg.{FlowArg}
use Rattle.npf_connections.{specs.{Pass.Pass, Said.Does}, proofs.SaidLemmas.did_nothing}
use Rattle.npf_icmpalg.specs.{declared.error.Inner.Inner, Error.{IsError, error_in, inner_key, is_error, quoted_packet}}
use Rattle.npf_engine_opening.specs.Saying.{FlowSaid}
use Rattle.npf_engine.specs.{declared.{connection.Met.Met, crossing.Crossing.Crossing}, Answer.arrival_of, Arrival.{Arrival, any_interface}}
use Rattle.npf_engine.specs.{Connection.FindsEither, Gateway.{AsksQuoted, peek_of}, Histories.FlowEntry}

-- a packet that a connection takes for what it quotes is an error
pub takes_error : {gateway : Bool} {arrival : Arrival} {facts : Facts} {said : List FlowSaid} {taken : Met} →
    AsksQuoted gateway arrival facts said (Some taken) → is_error arrival.bytes facts ≡ true
takes_error (AsksQuoted.quotes on error finds) = error.error

module _ (bytes : List ℕ) (facts : Facts) where
  pub quotes_none : quoted_packet bytes facts ≡ None → is_error bytes facts ≡ false
  quotes_none none = at_test (is_error bytes facts) refl none
    where
      at_test : (b : Bool) → is_error bytes facts ≡ b → (if b then Some (error_in bytes facts) else None) ≡ None → is_error bytes facts ≡ false
      at_test true is some = absurd cc
      at_test false is nothing = is

  quotes_one : (inner : Inner) → quoted_packet bytes facts ≡ Some inner → IsError bytes facts inner
  quotes_one inner some = at_test (is_error bytes facts) refl some
    where
      at_test : (b : Bool) → is_error bytes facts ≡ b → (if b then Some (error_in bytes facts) else None) ≡ Some inner → IsError bytes facts inner
      at_test true is quoted = record { error = is; is = cc }
      at_test false is nothing = absurd cc

-- a packet asked nothing
pub asked_nothing : {gateway : Bool} {arrival : Arrival} {facts : Facts} (pass : Pass FlowEntry) → AsksQuoted gateway arrival facts [] None →
    Does pass pass (λ said. AsksQuoted gateway arrival facts said None)
asked_nothing pass is = record { said = []; described = is; did = did_nothing pass }

-- an error looked for what it quotes
pub asked_quoted : (crossing : Crossing) (gateway : Bool) (inner : Inner) (peek : FlowArg) (own every : Key) → gateway ≡ true →
    quoted_packet crossing.bytes.now crossing.facts.now ≡ Some inner → peek ≡ peek_of crossing.time crossing.facts.now →
    own ≡ inner_key inner crossing.ifid → every ≡ inner_key inner any_interface →
    (old new : Pass FlowEntry) (result : Option Met) → Does old new (λ said. FindsEither crossing.number peek own every said result) →
    Does old new (λ said. AsksQuoted gateway (arrival_of crossing) crossing.facts.now said result)
asked_quoted crossing gateway inner peek own every on quoted peeks own_is every_is old new result finds = record {
  said = finds.said;
  described = AsksQuoted.quotes on (quotes_one crossing.bytes.now crossing.facts.now inner quoted) (rw (peeks, own_is, every_is) at finds.described);
  did = finds.did;
}
