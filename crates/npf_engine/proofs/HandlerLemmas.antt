-- From what answers a packet of IP to what handles a packet.
use Rattle.std.proofs.Common.{◌≡◌, ◌<◌, ℕ, Bool, List, [], ◌++◌, Option, Some, None, length, refl, sym, ap, subst, ◌∙◌, slice_get, get_or}
use Rattle.std.{proofs.lemmas.Option.{slice_get-get_or, slice_get-map}, specs.{Prelude.{if◌then◌else◌, is_some}, Option.option_map}}
use Rattle.npf_types.specs.declared.{decision.{Decision.TheVariants.Block, Return.{Return, TheVariants.Nothing}}, key.Key.Key}
use Rattle.npf_connections.{specs.{Pass.Pass, Said.Does}, proofs.SaidLemmas.{did_more, did_nothing}}
use Rattle.npf_flow.specs.declared.step.FlowArg.{FlowArg}
use Rattle.npf_key.specs.Key.{key_of}
use Rattle.npf_model.specs.Configuration.{Configuration}
use Rattle.npf_engine_opening.specs.Saying.{FlowSaid}
use Rattle.npf_packet.specs.{declared.decoded.Decoded.TheVariants.Ip, Decoder.Decodes}
use Rattle.npf_publish.specs.{declared.conf_reader.ConfReader.ConfReader, ConfReader.Reads}
use Rattle.npf_ruleset.specs.{declared.config.Config.Config, Configuration.configuration}
use Rattle.npf_engine.specs.declared.{answer.{Answer.Answer, Rewriting.Rewriting}, crossing.Crossing.Crossing, connection.Met.Met}
use Rattle.npf_engine.specs.declared.{outcome.Outcome.TheVariants.ByRule, rules.{Mapping.Mapping, Ruling.Ruling}}
use Rattle.npf_engine.specs.Answer.{Answers, AnswersUnder, AnswersByConn, AnswersByQuoted, AnswersRuled, IsSentSo, arrival_of}
use Rattle.npf_engine.specs.{Arrival.{any_interface, arg_of}, Explains.{AsksConnections, Explains, ExplainsIp, IsDecided, by_ruling}, Connection.FindsEither}
use Rattle.npf_engine.specs.{Gateway.AsksQuoted, Handles.{Handles, configurations, sight_of}, Histories.FlowEntry, Outcome.{passes, sent_of}}
use Rattle.npf_engine.proofs.{GatewayLemmas.takes_error, SightLemmas.{Turns, later_part, whole_did, whole_sight}}

module _ (crossing : Crossing) (config : ℕ) (mapped : Mapping) (ruled : Option Ruling) (answer : Answer) (old : Pass FlowEntry) (unsent : answer.rewriting ≡ None) where
  pub ruled_by_none : ruled ≡ None → answer.outcome ≡ ByRule (Block Nothing) None None config None →
      Does old old (AnswersRuled crossing config mapped ruled answer old old)
  ruled_by_none none outcome = record {
    said = [];
    described = λ sight sent spans so. let nothing : sent ≡ None = rw unsent at so in rw (none, outcome, nothing) IsDecided.unruled;
    did = did_nothing old;
  }

  pub ruled_by_block : (ruling : Ruling) (reply : Return) → ruled ≡ Some ruling → ruling.decision ≡ Block reply → answer.outcome ≡ by_ruling config ruling None →
      Does old old (AnswersRuled crossing config mapped ruled answer old old)
  ruled_by_block ruling reply is blocks outcome = record {
    said = [];
    described = λ sight sent spans so. let nothing : sent ≡ None = rw unsent at so in rw (is, outcome, nothing) (IsDecided.blocked blocks);
    did = did_nothing old;
  }

-- the configuration at a place
pub config_there : (configs : List Config) (number : ℕ) (config : Config) → number < length configs → config ≡ get_or configs number config →
    slice_get (configurations configs) number ≡ Some (configuration config)
config_there configs number config below is =
    slice_get-map configuration configs number ∙ ap (λ (there : Option Config). option_map configuration there)
    (slice_get-get_or configs number config below ∙ ap (λ (there : Config). Some there) (sym is))

module _ (crossing : Crossing) (arg : FlowArg) (own every : Key) (arg_is : arg ≡ arg_of crossing.time crossing.facts.now)
    (own_is : own ≡ key_of crossing.facts.now crossing.ifid) (every_is : every ≡ key_of crossing.facts.now any_interface) where
  -- a packet looks for its keys
  asks : (said : List FlowSaid) (result : Option Met) → FindsEither crossing.number arg own every said result →
      AsksConnections (arrival_of crossing) crossing.facts.now said result
  asks said result finds = rw (arg_is, own_is, every_is) at finds

  module _ (configs : List Config) (reader : ConfReader) (answer : Answer) (decodes : Decodes crossing.link crossing.bytes.now (Ip crossing.facts.now)) (old : Pass FlowEntry) where
    pub answers_by_conn : (new : Pass FlowEntry) (taken : Met) → Does old new (λ said. FindsEither crossing.number arg own every said (Some taken)) →
        AnswersByConn taken answer → Answers (configurations configs) old new reader reader crossing answer
    answers_by_conn new taken finds by = record {
      asked = None;
      said = finds.said;
      asks = (refl, refl);
      did = finds.did;
      explains = λ sight sent spans so. Explains.ip refl decodes
          (ExplainsIp.to_conn (asks finds.said (Some taken) finds.described) (by crossing.bytes.now crossing.facts.now sent so));
    }

    module _ (mid : Pass FlowEntry) (next : ConfReader) (number : ℕ) (config : Config) (there : slice_get (configurations configs) number ≡ Some (configuration config))
        (finds : Does old mid (λ said. FindsEither crossing.number arg own every said None)) (reads : Reads reader next number) where
      -- what the packet asked for what it quotes
      abbrev Quotes : Option Met → Pass FlowEntry → Type 0
      Quotes result last = Does mid last (λ said. AsksQuoted (configuration config).model.alg_icmp (arrival_of crossing) crossing.facts.now said result)

      pub answers_by_quoted : (new : Pass FlowEntry) (taken : Met) → Quotes (Some taken) new → AnswersByQuoted taken answer →
          Answers (configurations configs) old new reader next crossing answer
      answers_by_quoted new taken quotes by = record {
        asked = Some number;
        said = finds.said ++ quotes.said;
        asks = reads;
        did = did_more old mid new finds.said quotes.said finds.did quotes.did;
        explains = λ sight sent spans so.
            Explains.ip refl decodes (ExplainsIp.to_quoted (asks finds.said None finds.described) there quotes.described
            (by crossing.bytes.now crossing.facts.now sent (takes_error quotes.described) so));
      }

      pub answers_by_rules : (last new : Pass FlowEntry) → Quotes None last → Does last new (AnswersUnder crossing number (configuration config) answer last new) →
          Answers (configurations configs) old new reader next crossing answer
      answers_by_rules last new quotes ruled = record {
        asked = Some number;
        said = finds.said ++ (quotes.said ++ ruled.said);
        asks = reads;
        did = did_more old mid new finds.said (quotes.said ++ ruled.said) finds.did (did_more mid last new quotes.said ruled.said quotes.did ruled.did);
        explains = λ sight sent spans so.
            Explains.ip refl decodes (ExplainsIp.to_rules (asks finds.said None finds.described) there quotes.described
            (ruled.described sight sent (later_part sight mid last new quotes.said quotes.did (later_part sight old mid new finds.said finds.did spans)) so));
      }

-- what is sent is there exactly where the packet passes
sent_where : (rewriting : Option Rewriting) (bytes : List ℕ) (passed : Bool) → passed ≡ is_some rewriting →
    option_map (λ _. bytes) rewriting ≡ (if passed then Some bytes else None)
sent_where (Some rewriting) bytes passed is = rw is refl
sent_where None bytes passed is = rw is refl

pub handled : (configs : List Configuration) (first old new last : Pass FlowEntry) (reader next : ConfReader) (crossing : Crossing) (answer : Answer) (bytes : List ℕ) →
    Turns first old → Answers configs old new reader next crossing answer → Turns new last → last.entered ≡ first.entered →
    passes answer.outcome ≡ is_some answer.rewriting →
    IsSentSo crossing.bytes.now crossing.facts.now answer.rewriting (option_map (λ _. bytes) answer.rewriting) →
    Handles configs first last reader next (arrival_of crossing) answer.outcome (sent_of answer.outcome bytes)
handled configs first old new last reader next crossing answer bytes begins answers ends entered passing sent = record {
  asked = answers.asked;
  said = answers.said;
  asks = answers.asks;
  did = whole_did first old new last answers.said begins answers.did ends entered;
  explains = subst (λ (there : Option (List ℕ)). Explains configs (sight_of first last) (arrival_of crossing) answers.asked answers.said answer.outcome there)
      (sent_where answer.rewriting bytes (passes answer.outcome) passing)
      (answers.explains (sight_of first last) (option_map (λ _. bytes) answer.rewriting) (whole_sight first old new last answers.said begins answers.did ends) sent);
}
