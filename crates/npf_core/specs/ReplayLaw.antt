-- The replay law: a Live connection's flow is the replay of its start and its Done Steps.
use Rattle.std.specs.Prelude.{◌≡◌, ℕ, ◌+◌, ◌-◌, ◌^◌, min, List, [], ◌∷◌, ◌++◌, length, Option, Some, None, if◌then◌else◌}
use Rattle.std.specs.List.{filter_map}
use Rattle.npf_types.specs.declared.key.Way.{Way}
use Rattle.npf_core.specs.declared.entry.Entry.{Entry}
use Rattle.npf_core.specs.declared.act.Act.{Act}
use Rattle.npf_core.specs.declared.act.Act.TheVariants.{Start, Step}
use Rattle.npf_core.specs.declared.conn_id.ConnId.{ConnId}
use Rattle.npf_core.specs.declared.reply.Reply.{Reply}
use Rattle.npf_core.specs.declared.reply.Reply.TheVariants.{ToStep}
use Rattle.npf_core.specs.declared.stage.Stage.TheVariants.{Live}
use Rattle.npf_core.specs.declared.stepped.Stepped.{Stepped}
use Rattle.npf_core.specs.History.{Legal, state_of}
use Rattle.npf_core.specs.Machine.{stage_of}
use Rattle.npf_core.specs.Meaning.{Meaning}
use Rattle.npf_core.specs.NextState.{is_id}

-- the flow with which an act starts the connection
abbrev pub start_of : {S A : Type 0} → ConnId → Act S A → Option S
start_of id (Start other packet init) = if is_id other id then Some init else None
start_of id _ = None

-- the way and the argument of a Step of the connection that was Done
abbrev pub step_of : {S A R : Type 0} → ConnId → Act S A → Reply R → Option (Way × A)
step_of id (Step packet other way arg) (ToStep (Stepped.Done reply place)) = if is_id other id then Some (way, arg) else None
step_of id _ _ = None

-- the starts of the connection in a history
abbrev pub starts : {S A R : Type 0} → ConnId → List (Entry S A R) → List S
starts id = filter_map (λ entry. start_of id entry.act)

-- the Done Steps of the connection in a history
abbrev pub done_steps : {S A R : Type 0} → ConnId → List (Entry S A R) → List (Way × A)
done_steps id = filter_map (λ entry. step_of id entry.act entry.reply)

-- the flow that the steps make of a flow
abbrev pub replay : {S A R : Type 0} → Meaning S A R → S → List (Way × A) → S
replay m flow [] = flow
replay m flow (step ∷ steps) = replay m (m.next flow step.0 step.1) steps

-- the connection was started once in the history, its flow is the replay of its Done Steps from there, and its count is
-- that of its start and these, up to the largest number of 64 bits
pub record IsReplay {S A R : Type 0} (m : Meaning S A R) (history : List (Entry S A R)) (id : ConnId) (flow : S) (steps : ℕ) : Type 0 where
  pub init : S
  pub started : starts id history ≡ init ∷ []
  pub replayed : flow ≡ replay m init (done_steps id history)
  pub counted : steps ≡ min (1 + length (done_steps id history)) (2 ^ 64 - 1)

-- of each Live connection
abbrev pub ReplaysFlows : {S A R : Type 0} → Meaning S A R → ℕ → Type 0
ReplaysFlows {S} {A} {R} m slots =
    (history : List (Entry S A R)) (id : ConnId) (flow : S) (steps : ℕ) →
    Legal m slots history → stage_of (state_of m history) id ≡ Live flow steps → IsReplay m history id flow steps

-- the entry is a Step of the connection that is Done
pub record IsDoneStep {S A R : Type 0} (entry : Entry S A R) (id : ConnId) (way : Way) (arg : A) (reply : R) (place : ℕ) : Type 0 where
  pub packet : ℕ
  pub act : entry.act ≡ Step packet id way arg
  pub done : entry.reply ≡ ToStep (Stepped.Done reply place)

-- a Done Step answers by the replay of what was before it, and its place is the count of that
pub record AnswersBy {S A R : Type 0} (m : Meaning S A R) (before : List (Entry S A R)) (id : ConnId) (way : Way) (arg : A) (reply : R) (place : ℕ) : Type 0 where
  pub flow : S
  pub replay : IsReplay m before id flow place
  pub answer : reply ≡ m.answer flow way arg

-- each Done Step of a legal history does so
abbrev pub ReplaysAnswers : {S A R : Type 0} → Meaning S A R → ℕ → Type 0
ReplaysAnswers {S} {A} {R} m slots =
    (before rest : List (Entry S A R)) (entry : Entry S A R) (id : ConnId) (way : Way) (arg : A) (reply : R) (place : ℕ) →
    Legal m slots (before ++ entry ∷ rest) → IsDoneStep entry id way arg reply place → AnswersBy m before id way arg reply place
