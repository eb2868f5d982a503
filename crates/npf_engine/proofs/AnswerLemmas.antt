-- What an answer says of the packet.
use Rattle.std.{proofs.Common.{◌≡◌, ◌≢◌, ℕ, Bool, true, false, List, [], Option, Some, None, refl, subst}, specs.Prelude.if◌then◌else◌}
use Rattle.npf_types.specs.declared.{action.Action.Action, change.Change.Change, decision.Decision.TheVariants.Pass, facts.Facts.Facts}
use Rattle.npf_core.specs.declared.{conn_id.ConnId.ConnId, found.Found.Found}
use Rattle.npf_core.specs.declared.stepped.Stepped.TheVariants as Steps
use Rattle.npf_connections.{specs.{Beginning.IsFullBetween, Pass.Pass as PassView, Said.{Did, Does}}, proofs.SaidLemmas.did_nothing}
use Rattle.npf_flow.specs.{declared.step.FlowReply.FlowReply, Flows.flow_law}
use Rattle.npf_icmpalg.specs.{declared.error.Inner.Inner, Error.{error_in, is_error, quoted_packet}, ErrorTranslated.{ErrorSent, ErrorTranslated}}
use Rattle.npf_rewrite.specs.{Normalised.Normalised, Translated.Translated}
use Rattle.npf_engine_opening.specs.{declared.attempt.{Attempt.Attempt, Opened.Opened, Refusal.{Refusal, TheVariants.Full}}, Opening.OpensConnection}
use Rattle.npf_engine_opening.proofs.RoomLemmas.{full_says_nothing}
use Rattle.npf_engine.specs.declared.{answer.{Answer.Answer, Translation.{Translation, TheVariants.{OfPacket, OfError}}}, connection.Met.Met}
use Rattle.npf_engine.specs.declared.{crossing.Crossing.Crossing, outcome.Outcome.TheVariants.Dropped, rules.Mapping.TheVariants.Unmapped, open.Passed.Passed}
use Rattle.npf_engine.specs.Answer.{AnswersByConn, AnswersByQuoted, AnswersRuled, AnswersTried, IsRewrittenBy, IsSentSo, arrival_of, own_rewriting, quoted_by, taken_rewriting}
use Rattle.npf_engine.specs.{Explains.{IsDecided, IsSentIf, LacksConnection, IsTried, Sight, WasFull, by_conn, by_ruling, unkept}, Connection.met}
use Rattle.npf_engine.{specs.{Histories.FlowEntry, Rules.{OpensOne, attempt_of, static_change, unchanged}}, proofs.SightLemmas.was_full}

-- what is sent of a packet that a connection took
module _ (bytes : List ℕ) (facts : Facts) (action : Action) (change : Change) (sent : Option (List ℕ)) where
  sent_if : (translation : Translation) (pass : Bool) →
      IsSentSo bytes facts (if pass then Some (record { action = action; change = change; translation = translation }) else None) sent →
      IsSentIf pass (IsRewrittenBy bytes facts translation action change) sent
  sent_if translation true so = so
  sent_if translation false so = so

  -- an error is sent as one
  sent_as_error : is_error bytes facts ≡ true → (pass : Bool) → IsSentIf pass (IsRewrittenBy bytes facts OfError action change) sent →
      IsSentIf pass (ErrorSent bytes facts action change) sent
  sent_as_error error true so = record { output = so.output; are = so.are; rewritten = so.rewritten error }
  sent_as_error error false so = so

-- what is made of a packet, by what is translated together with it
module _ (bytes : List ℕ) (facts : Facts) (action : Action) (change : Change) (normalised output : List ℕ) (first : Normalised bytes facts action normalised) where
  pub rewritten_alone : (translation : Translation) → quoted_by bytes facts translation ≡ None → Translated normalised facts change output →
      IsRewrittenBy bytes facts translation action change output
  rewritten_alone OfPacket none second = record { normalised = normalised; first = first; second = second }
  rewritten_alone OfError none second = λ error. let some : quoted_packet bytes facts ≡ Some (error_in bytes facts) = rw error refl in absurd cc

  pub rewritten_with : (translation : Translation) (inner : Inner) → quoted_by bytes facts translation ≡ Some inner →
      ErrorTranslated normalised facts inner change output → IsRewrittenBy bytes facts translation action change output
  rewritten_with OfPacket inner some second = absurd cc
  rewritten_with OfError inner some second = λ error.
      let whole : quoted_packet bytes facts ≡ Some (error_in bytes facts) = rw error refl in
      let is : inner ≡ error_in bytes facts = cc in
      record { normalised = normalised; first = first; second = subst (λ i. ErrorTranslated normalised facts i change output) is second }

module _ (taken : Met) (answer : Answer) (is : answer.outcome ≡ by_conn taken) where
  pub answers_by_conn : answer.rewriting ≡ taken_rewriting taken.reply OfPacket → AnswersByConn taken answer
  answers_by_conn rewriting bytes facts sent so = record {
    is = is;
    sends = sent_if bytes facts taken.reply.action taken.reply.change sent OfPacket taken.reply.pass (rw rewriting at so);
  }

  pub answers_by_quoted : answer.rewriting ≡ taken_rewriting taken.reply OfError → AnswersByQuoted taken answer
  answers_by_quoted rewriting bytes facts sent error so = record {
    is = is;
    sends = sent_as_error bytes facts taken.reply.action taken.reply.change sent error taken.reply.pass
        (sent_if bytes facts taken.reply.action taken.reply.change sent OfError taken.reply.pass (rw rewriting at so));
  }

module _ (passed : Passed) (answer : Answer) where
  pub tried_open : (opened : Opened) (id : ConnId) (there : Change) → opened ≡ Opened.Open id there →
      answer.outcome ≡ by_ruling passed.config passed.ruling (Some id) →
      answer.rewriting ≡ Some (own_rewriting passed.ruling.action there) →
      (sight : Sight) → AnswersTried passed opened answer sight
  tried_open opened id there is outcome rewriting sight bytes facts sent so = rw (is, outcome) (IsTried.opened (rw rewriting at so))

  pub tried_known : (opened : Opened) (holder : Found) (reply : FlowReply) (place : ℕ) → opened ≡ Opened.Known holder (Steps.Done reply place) →
      AnswersByConn (met holder reply place) answer → (sight : Sight) → AnswersTried passed opened answer sight
  tried_known opened holder reply place is taken sight bytes facts sent so = rw is (IsTried.known {holder = holder} (taken bytes facts sent so))

  module _ (why : Refusal) (sight : Sight) (opened : Opened) (refused : LacksConnection sight opened why) where
    pub tried_unkept : passed.mapping ≡ Unmapped → answer.outcome ≡ unkept passed.config passed.ruling why →
        answer.rewriting ≡ Some (own_rewriting passed.ruling.action unchanged) → AnswersTried passed opened answer sight
    tried_unkept mapped outcome rewriting bytes facts sent so = rw outcome (IsTried.alone mapped refused (rw rewriting at so))

    pub tried_dropped : passed.mapping ≢ Unmapped → answer.outcome ≡ Dropped passed.ruling.place passed.config why →
        answer.rewriting ≡ None → AnswersTried passed opened answer sight
    tried_dropped mapped outcome rewriting bytes facts sent so =
        let none : sent ≡ None = rw rewriting at so in
        rw (outcome, none) (IsTried.dropped mapped refused)

module _ (crossing : Crossing) (passed : Passed) (answer : Answer) (decided : passed.ruling.decision ≡ Pass) where
  pub ruled_passed : (old : PassView FlowEntry) → ¬ OpensOne passed.ruling passed.mapping →
      answer.outcome ≡ by_ruling passed.config passed.ruling None →
      answer.rewriting ≡ Some (own_rewriting passed.ruling.action (static_change passed.mapping)) →
      Does old old (AnswersRuled crossing passed.config passed.mapping (Some passed.ruling) answer old old)
  ruled_passed old none outcome rewriting = record {
    said = [];
    described = λ sight sent spans so. rw outcome (IsDecided.passed decided none (rw rewriting at so));
    did = did_nothing old;
  }

  pub ruled_tried : (old new : PassView FlowEntry) (attempt : Attempt) (opened : Opened) → OpensOne passed.ruling passed.mapping →
      attempt ≡ attempt_of (arrival_of crossing) crossing.facts.now passed.ruling passed.mapping →
      Does old new (λ said. OpensConnection attempt said opened) →
      (opened ≡ Opened.Refused Full → IsFullBetween flow_law old new.history) →
      ((sight : Sight) → (opened ≡ Opened.Refused Full → WasFull sight) → AnswersTried passed opened answer sight) →
      Does old new (AnswersRuled crossing passed.config passed.mapping (Some passed.ruling) answer old new)
  ruled_tried old new attempt opened one is opens full tried = record {
    said = opens.said;
    described = λ sight sent spans so.
        let room : opened ≡ Opened.Refused Full → WasFull sight =
        λ all. was_full sight old new (subst (λ said. Did old new said) (full_says_nothing opens.described all) opens.did) (full all) spans in
        IsDecided.tried decided one (rw is at opens.described) (tried sight room crossing.bytes.now crossing.facts.now sent so);
    did = opens.did;
  }
