-- What an answer to a packet of IP means: it explains the packet's outcome in each sight that the pass has of the work.
use Rattle.std.specs.Prelude.{◌≡◌, ℕ, true, if◌then◌else◌, Option, Some, None, List, [], ◌++◌}
use Rattle.npf_types.specs.declared.action.Action.{Action}
use Rattle.npf_types.specs.declared.change.Change.{Change}
use Rattle.npf_types.specs.declared.facts.Facts.{Facts}
use Rattle.npf_core.specs.History.{IsPrefix, by}
use Rattle.npf_connections.specs.Pass.{Pass}
use Rattle.npf_connections.specs.Said.{Did}
use Rattle.npf_flow.specs.declared.step.FlowReply.{FlowReply}
use Rattle.npf_model.specs.Configuration.{Configuration}
use Rattle.npf_publish.specs.declared.conf_reader.ConfReader.{ConfReader}
use Rattle.npf_icmpalg.specs.declared.error.Inner.{Inner}
use Rattle.npf_icmpalg.specs.Error.{is_error, quoted_packet}
use Rattle.npf_icmpalg.specs.ErrorTranslated.{ErrorSent}
use Rattle.npf_rewrite.specs.Sent.{Sent}
use Rattle.npf_engine_opening.specs.declared.attempt.Opened.{Opened}
use Rattle.npf_engine.specs.declared.answer.Answer.{Answer}
use Rattle.npf_engine.specs.declared.answer.Rewriting.{Rewriting}
use Rattle.npf_engine.specs.declared.answer.Translation.{Translation}
use Rattle.npf_engine.specs.declared.answer.Translation.TheVariants.{OfPacket, OfError}
use Rattle.npf_engine.specs.declared.crossing.Crossing.{Crossing}
use Rattle.npf_engine.specs.declared.connection.Met.{Met}
use Rattle.npf_engine.specs.declared.rules.Mapping.{Mapping}
use Rattle.npf_engine.specs.declared.rules.Ruling.{Ruling}
use Rattle.npf_engine.specs.declared.open.Passed.{Passed}
use Rattle.npf_engine.specs.Arrival.{Arrival, arrival}
use Rattle.npf_engine.specs.Explains.{Sight, IsSentAs, IsByConn, IsByQuoted, IsTried, IsDecided, Explains}
use Rattle.npf_engine.specs.Handles.{Asks}
use Rattle.npf_engine_opening.specs.Saying.{FlowSaid}
use Rattle.npf_engine.specs.Histories.{FlowEntry, History}
use Rattle.npf_engine.specs.Rules.{mapping_of, ruling_of}

-- the packet that crosses
abbrev pub arrival_of : Crossing → Arrival
arrival_of crossing = arrival crossing.number crossing.time crossing.link crossing.ifid crossing.dir crossing.bytes.now

-- What is made of a packet by an action and a change: it is normalised and then translated, and so is an error with what it quotes.
abbrev pub IsRewrittenBy : List ℕ → Facts → Translation → Action → Change → List ℕ → Type 0
IsRewrittenBy bytes facts OfPacket = Sent bytes facts
IsRewrittenBy bytes facts OfError = λ action change output. is_error bytes facts ≡ true → ErrorSent bytes facts action change output

-- what is translated together with the packet, which quotes it
abbrev pub quoted_by : List ℕ → Facts → Translation → Option Inner
quoted_by bytes facts OfPacket = None
quoted_by bytes facts OfError = quoted_packet bytes facts

-- a packet is rewritten without what it may quote
abbrev pub own_rewriting : Action → Change → Rewriting
own_rewriting action change = record { action = action; change = change; translation = OfPacket }

-- so is one that a connection took, by the law's answer, where it passes
abbrev pub taken_rewriting : FlowReply → Translation → Option Rewriting
taken_rewriting reply translation =
    if reply.pass then Some (record { action = reply.action; change = reply.change; translation = translation }) else None

-- what is sent of a packet that is rewritten so: none where it isn't rewritten
abbrev pub IsSentSo : List ℕ → Facts → Option Rewriting → Option (List ℕ) → Type 0
IsSentSo bytes facts None sent = sent ≡ None
IsSentSo bytes facts (Some rewriting) sent = IsSentAs (IsRewrittenBy bytes facts rewriting.translation rewriting.action rewriting.change) sent

-- the sight begins no later than the pass at one moment, and goes on from the pass at another without an entry of it
pub record Spans (sight : Sight) (old new : Pass FlowEntry) : Type 0 where
  pub slots : sight.slots ≡ old.slots
  pub seat : sight.seat ≡ old.number
  pub begins : IsPrefix sight.before old.history
  pub behind : History
  pub goes_on : sight.after ≡ new.history ++ behind
  pub quiet : by sight.seat behind ≡ []

-- so it is in each sight of the work, whatever is sent by the answer
abbrev pub InSight : Crossing → Answer → Pass FlowEntry → Pass FlowEntry → (Sight → Option (List ℕ) → Type 0) → Type 0
InSight crossing answer old new Holds =
    (sight : Sight) (sent : Option (List ℕ)) → Spans sight old new →
    IsSentSo crossing.bytes.now crossing.facts.now answer.rewriting sent → Holds sight sent

-- a connection took the packet
abbrev pub AnswersByConn : Met → Answer → Type 0
AnswersByConn taken answer =
    (bytes : List ℕ) (facts : Facts) (sent : Option (List ℕ)) → IsSentSo bytes facts answer.rewriting sent →
    IsByConn bytes facts taken answer.outcome sent

-- the connection whose packet it quotes took it
abbrev pub AnswersByQuoted : Met → Answer → Type 0
AnswersByQuoted taken answer =
    (bytes : List ℕ) (facts : Facts) (sent : Option (List ℕ)) → is_error bytes facts ≡ true → IsSentSo bytes facts answer.rewriting sent →
    IsByQuoted bytes facts taken answer.outcome sent

-- the packet was to open a connection, of which this became
abbrev pub AnswersTried : Passed → Opened → Answer → Sight → Type 0
AnswersTried passed opened answer sight =
    (bytes : List ℕ) (facts : Facts) (sent : Option (List ℕ)) → IsSentSo bytes facts answer.rewriting sent →
    IsTried bytes facts sight passed.config passed.ruling passed.mapping opened answer.outcome sent

-- the configuration of this number answers the packet, by these of its maps and rules
abbrev pub AnswersRuled : Crossing → ℕ → Mapping → Option Ruling → Answer → Pass FlowEntry → Pass FlowEntry → List FlowSaid → Type 0
AnswersRuled crossing config mapped ruled answer old new said =
    InSight crossing answer old new
    (λ sight sent. IsDecided crossing.bytes.now crossing.facts.now sight (arrival_of crossing) config mapped ruled said answer.outcome sent)

-- so a configuration answers the packet
abbrev pub AnswersUnder : Crossing → ℕ → Configuration → Answer → Pass FlowEntry → Pass FlowEntry → List FlowSaid → Type 0
AnswersUnder crossing number config =
    AnswersRuled crossing number (mapping_of config crossing.facts.now crossing.ifid crossing.dir) (ruling_of config crossing.facts.now crossing.ifid crossing.dir)

-- the packet is answered, by what the pass said and the number that the reader read
pub record Answers (configs : List Configuration) (old new : Pass FlowEntry) (reader next : ConfReader) (crossing : Crossing) (answer : Answer) : Type 0 where
  pub asked : Option ℕ
  pub said : List FlowSaid
  pub asks : Asks reader next asked
  pub did : Did old new said
  pub explains : InSight crossing answer old new (λ sight sent. Explains configs sight (arrival_of crossing) asked said answer.outcome sent)
