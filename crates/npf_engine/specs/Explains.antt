-- Why a packet has its outcome: by what its bytes say, what it asked of connections and was answered, and what a published
-- configuration means. Nothing here depends on how a packet is worked on.
-- READ 10 of docs/READING.md
use Rattle.std.specs.Prelude.{◌≡◌, ◌≢◌, ◌<◌, ℕ, Bool, true, false, Option, Some, None, List, [], ◌++◌, slice_get}
use Rattle.npf_types.specs.declared.action.Action.{Action}
use Rattle.npf_types.specs.declared.change.Change.{Change}
use Rattle.npf_types.specs.declared.decision.Decision.TheVariants.{Pass, Block}
use Rattle.npf_types.specs.declared.decision.Return.{Return}
use Rattle.npf_types.specs.declared.decision.Return.TheVariants.{Nothing}
use Rattle.npf_types.specs.declared.facts.Facts.{Facts}
use Rattle.npf_core.specs.declared.conn_id.ConnId.{ConnId}
use Rattle.npf_core.specs.declared.found.Found.{Found}
use Rattle.npf_core.specs.declared.stepped.Stepped.TheVariants as Steps
use Rattle.npf_core.specs.History.{IsPrefix, by, state_of}
use Rattle.npf_core.specs.Machine.{IsClaimed}
use Rattle.npf_flow.specs.declared.step.FlowReply.{FlowReply}
use Rattle.npf_flow.specs.Flows.{flow_law}
use Rattle.npf_key.specs.Key.{key_of}
use Rattle.npf_model.specs.Configuration.{Configuration}
use Rattle.npf_engine_opening.specs.declared.attempt.Opened.{Opened}
use Rattle.npf_engine_opening.specs.declared.attempt.Opened.TheVariants as Openings
use Rattle.npf_engine_opening.specs.declared.attempt.Refusal.{Refusal}
use Rattle.npf_engine_opening.specs.declared.attempt.Refusal.TheVariants as Refusals
use Rattle.npf_engine_opening.specs.Opening.{OpensConnection}
use Rattle.npf_packet.specs.declared.decoded.BadPacket.{BadPacket}
use Rattle.npf_packet.specs.declared.decoded.Decoded.TheVariants as Says
use Rattle.npf_packet.specs.Decoder.{Decodes}
use Rattle.npf_icmpalg.specs.ErrorTranslated.{ErrorSent}
use Rattle.npf_rewrite.specs.Sent.{Sent}
use Rattle.npf_traffic.specs.declared.packet.FragWhy.{FragWhy}
use Rattle.npf_engine.specs.declared.connection.Met.{Met}
use Rattle.npf_engine.specs.declared.outcome.Outcome.{Outcome}
use Rattle.npf_engine.specs.declared.outcome.Outcome.TheVariants.{Skip, Fragment, Malformed, ByConn, ByRule, Unkept, Dropped}
use Rattle.npf_engine.specs.declared.rules.Mapping.{Mapping}
use Rattle.npf_engine.specs.declared.rules.Mapping.TheVariants.{Unmapped}
use Rattle.npf_engine.specs.declared.rules.Ruling.{Ruling}
use Rattle.npf_engine.specs.Arrival.{Arrival, any_interface, arg_of}
use Rattle.npf_engine.specs.Connection.{FindsEither, met}
use Rattle.npf_engine_opening.specs.Saying.{FlowSaid}
use Rattle.npf_engine.specs.Gateway.{AsksQuoted}
use Rattle.npf_engine.specs.Histories.{History}
use Rattle.npf_engine.specs.Rules.{ruling_of, mapping_of, unchanged, static_change, OpensOne, attempt_of}

-- What a pass saw while a packet was worked on: its table's number of slots, the pass's number, and the history before and after.
pub record Sight : Type 0 where
  pub slots : ℕ
  pub seat : ℕ
  pub before : History
  pub after : History

-- The slot was claimed at a point of the history after all entries of the pass, and so after the packet's last one.
pub record SlotWasClaimed (sight : Sight) (slot : ℕ) : Type 0 where
  pub point : History
  pub behind : History
  pub begins : IsPrefix sight.before point
  pub goes_on : sight.after ≡ point ++ behind
  pub quiet : by sight.seat behind ≡ []
  pub claimed : IsClaimed ((state_of flow_law point).slot slot).stage

-- each slot was, at a point of its own
abbrev pub WasFull : Sight → Type 0
WasFull sight = (slot : ℕ) → slot < sight.slots → SlotWasClaimed sight slot

-- why a packet has no connection of its own: it was refused one for this cause, and the table was full where that is the cause;
-- or the holder of its key was no more live when it was stepped
pub data LacksConnection (sight : Sight) : Opened → Refusal → Type 0 where
  refused : {why : Refusal} → (why ≡ Refusals.Full → WasFull sight) → LacksConnection sight (Openings.Refused why) why
  ended : {holder : Found} → LacksConnection sight (Openings.Known holder Steps.NotLive) (Refusals.Taken holder)

-- the outcome of a packet that a connection took
abbrev pub by_conn : Met → Outcome
by_conn taken = ByConn taken.id taken.reply.opener taken.place taken.reply.pass taken.reply.action.log

-- the outcome of a packet on which a rule decided
abbrev pub by_ruling : ℕ → Ruling → Option ConnId → Outcome
by_ruling config ruled opened = ByRule ruled.decision ruled.action.log (Some ruled.place) config opened

-- the outcome of a packet that goes on without the connection that it was to open
abbrev pub unkept : ℕ → Ruling → Refusal → Outcome
unkept config ruled why = Unkept ruled.action.log ruled.place config why

-- it is sent as bytes of which this holds
pub record IsSentAs (Rewritten : List ℕ → Type 0) (sent : Option (List ℕ)) : Type 0 where
  pub output : List ℕ
  pub are : sent ≡ Some output
  pub rewritten : Rewritten output

-- it is sent exactly where it passes
abbrev pub IsSentIf : Bool → (List ℕ → Type 0) → Option (List ℕ) → Type 0
IsSentIf true Rewritten sent = IsSentAs Rewritten sent
IsSentIf false Rewritten sent = sent ≡ None

-- a connection took it: its law's answer tells the rest, and by which action and change it is rewritten
pub record IsByReply (Rewritten : Action → Change → List ℕ → Type 0) (taken : Met) (outcome : Outcome) (sent : Option (List ℕ)) : Type 0 where
  pub is : outcome ≡ by_conn taken
  pub sends : IsSentIf taken.reply.pass (Rewritten taken.reply.action taken.reply.change) sent

module _ (bytes : List ℕ) (facts : Facts) where
  -- it is sent: normalised by the action and then translated by the change
  abbrev pub IsSent : Action → Change → Option (List ℕ) → Type 0
  IsSent action change = IsSentAs (Sent bytes facts action change)

  -- the connection that holds its key took it
  abbrev pub IsByConn : Met → Outcome → Option (List ℕ) → Type 0
  IsByConn = IsByReply (Sent bytes facts)

  -- the connection whose packet it quotes took it: it is normalised, and then translated with what it quotes
  abbrev pub IsByQuoted : Met → Outcome → Option (List ℕ) → Type 0
  IsByQuoted = IsByReply (ErrorSent bytes facts)

  -- What became of a packet that was to open a connection, under the configuration of this number. It opened one; its forward key was
  -- another's by then, which took it; or it has none, and is sent without translation where no map applies, and is dropped where one does.
  pub data IsTried (sight : Sight) (config : ℕ) (ruled : Ruling) (mapped : Mapping) : Opened → Outcome → Option (List ℕ) → Type 0 where
    opened : {id : ConnId} {there : Change} {sent : Option (List ℕ)} → IsSent ruled.action there sent →
        IsTried sight config ruled mapped (Openings.Open id there) (by_ruling config ruled (Some id)) sent
    known : {holder : Found} {reply : FlowReply} {place : ℕ} {outcome : Outcome} {sent : Option (List ℕ)} →
        IsByConn (met holder reply place) outcome sent →
        IsTried sight config ruled mapped (Openings.Known holder (Steps.Done reply place)) outcome sent
    alone : {result : Opened} {why : Refusal} {sent : Option (List ℕ)} → mapped ≡ Unmapped → LacksConnection sight result why →
        IsSent ruled.action unchanged sent → IsTried sight config ruled mapped result (unkept config ruled why) sent
    dropped : {result : Opened} {why : Refusal} → mapped ≢ Unmapped → LacksConnection sight result why →
        IsTried sight config ruled mapped result (Dropped ruled.place config why) None

  -- What the configuration of this number made of a packet that no connection took, by what it then asked. No rule decides, and it is
  -- blocked; a rule blocks it; a rule passes it and it opens no connection; or it was to open one.
  pub data IsDecided (sight : Sight) (arrival : Arrival) (config : ℕ) (mapped : Mapping) : Option Ruling → List FlowSaid → Outcome → Option (List ℕ) → Type 0 where
    unruled : IsDecided sight arrival config mapped None [] (ByRule (Block Nothing) None None config None) None
    blocked : {ruled : Ruling} {answer : Return} → ruled.decision ≡ Block answer →
        IsDecided sight arrival config mapped (Some ruled) [] (by_ruling config ruled None) None
    passed : {ruled : Ruling} {sent : Option (List ℕ)} → ruled.decision ≡ Pass → ¬ OpensOne ruled mapped →
        IsSent ruled.action (static_change mapped) sent → IsDecided sight arrival config mapped (Some ruled) [] (by_ruling config ruled None) sent
    tried : {ruled : Ruling} {said : List FlowSaid} {result : Opened} {outcome : Outcome} {sent : Option (List ℕ)} →
        ruled.decision ≡ Pass → OpensOne ruled mapped → OpensConnection (attempt_of arrival facts ruled mapped) said result →
        IsTried sight config ruled mapped result outcome sent → IsDecided sight arrival config mapped (Some ruled) said outcome sent

-- What a packet that is one of IP with these facts asked first: which live connection takes it, if one does.
abbrev pub AsksConnections : Arrival → Facts → List FlowSaid → Option Met → Type 0
AsksConnections arrival facts =
    FindsEither arrival.number (arg_of arrival.time facts) (key_of facts arrival.ifid) (key_of facts any_interface)

module _ (configs : List Configuration) (sight : Sight) (arrival : Arrival) where
  -- A packet that is one of IP with these facts has this outcome, and is sent so: a live connection that holds its key took it; one took it
  -- whose packet it quotes; or else the rules decided, by the configuration of the number that it asked.
  pub data ExplainsIp (facts : Facts) : Option ℕ → List FlowSaid → Outcome → Option (List ℕ) → Type 0 where
    to_conn : {said : List FlowSaid} {taken : Met} {outcome : Outcome} {sent : Option (List ℕ)} →
        AsksConnections arrival facts said (Some taken) → IsByConn arrival.bytes facts taken outcome sent → ExplainsIp facts None said outcome sent
    to_quoted : {number : ℕ} {config : Configuration} {looked said : List FlowSaid} {taken : Met} {outcome : Outcome} {sent : Option (List ℕ)} →
        AsksConnections arrival facts looked None → slice_get configs number ≡ Some config →
        AsksQuoted config.model.alg_icmp arrival facts said (Some taken) →
        IsByQuoted arrival.bytes facts taken outcome sent → ExplainsIp facts (Some number) (looked ++ said) outcome sent
    to_rules : {number : ℕ} {config : Configuration} {looked quoted said : List FlowSaid} {outcome : Outcome} {sent : Option (List ℕ)} →
        AsksConnections arrival facts looked None → slice_get configs number ≡ Some config →
        AsksQuoted config.model.alg_icmp arrival facts quoted None →
        IsDecided arrival.bytes facts sight arrival number (mapping_of config facts arrival.ifid arrival.dir)
        (ruling_of config facts arrival.ifid arrival.dir) said outcome sent →
        ExplainsIp facts (Some number) (looked ++ (quoted ++ said)) outcome sent

  -- The packet has this outcome, and is sent so, by what it asked of connections and was answered, and by the configuration of this
  -- number, if it asked one. A fragment that is held asks nothing, and neither does what isn't a packet of IP.
  pub data Explains : Option ℕ → List FlowSaid → Outcome → Option (List ℕ) → Type 0 where
    fragment : {why : FragWhy} → arrival.held ≡ Some why → Explains None [] (Fragment why) None
    skip : arrival.held ≡ None → Decodes arrival.link arrival.bytes Says.Skip → Explains None [] Skip None
    malformed : {why : BadPacket} {at : ℕ} → arrival.held ≡ None → Decodes arrival.link arrival.bytes (Says.Malformed why at) →
        Explains None [] (Malformed why at) None
    ip : {facts : Facts} {asked : Option ℕ} {said : List FlowSaid} {outcome : Outcome} {sent : Option (List ℕ)} →
        arrival.held ≡ None → Decodes arrival.link arrival.bytes (Says.Ip facts) → ExplainsIp facts asked said outcome sent →
        Explains asked said outcome sent
