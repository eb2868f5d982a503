-- The replay law.
use Rattle.std.proofs.Common.{◌≡◌, ℕ, ◌+◌, ◌-◌, ◌^◌, min, true, List, [], ◌∷◌, ◌++◌, length, Option, Some, None, refl, sym, ◌∙◌, arith, length-append, append-nil}
use Rattle.std.{specs.List.filter_map, proofs.lemmas.List.Elements.filter_map-append}
use Rattle.npf_types.specs.declared.key.Way.{Way}
use Rattle.npf_core.specs.declared.{act.Act.{Act, TheVariants.{Start, Step}}, conn_id.ConnId.ConnId, entry.Entry.Entry, reply.Reply.{Reply, TheVariants.ToStep}}
use Rattle.npf_core.specs.{declared.{stage.Stage.{Stage, TheVariants.{Vacant, Building, Live, Dead}}, stepped.Stepped.Stepped}, History.{Legal, state_of}}
use Rattle.npf_core.specs.{Machine.{opening, stage_of}, Meaning.Meaning, NextState.is_id, Replies.step_answer}
use Rattle.npf_core.specs.ReplayLaw.{start_of, step_of, starts, done_steps, replay, IsReplay, ReplaysFlows, ReplaysAnswers}
use Rattle.npf_core.proofs.HistoryLemmas.{LegalFrom-front, MayFollow-split, by_entries}
use Rattle.npf_core.proofs.LifeLemmas.{Life, to_come, built, lives, killed, gone, stage_in, stage_of-is, life_of, IsSilent, Moves, keeps, claims}
use Rattle.npf_core.proofs.LifeLemmas.{starts as is_start, steps as is_step, abandons, expires, frees, entry_moves, life_of-opening}
use Rattle.npf_core.proofs.EqualityLemmas.{is_id-Decides}

passed : {X Y : Type 0} (h : X → Option Y) (xs : List X) (x : X) → h x ≡ None → filter_map h (xs ++ x ∷ []) ≡ filter_map h xs
passed h xs x e = filter_map-append h xs (x ∷ []) ∙ rw e (append-nil (filter_map h xs))

kept : {X Y : Type 0} (h : X → Option Y) (xs : List X) (x : X) (y : Y) → h x ≡ Some y → filter_map h (xs ++ x ∷ []) ≡ filter_map h xs ++ y ∷ []
kept h xs x y e = filter_map-append h xs (x ∷ []) ∙ rw e refl

-- one step more is the law's next flow
pub replay-append : {S A R : Type 0} (m : Meaning S A R) (flow : S) (xs : List (Way × A)) (way : Way) (arg : A) → replay m flow (xs ++ (way, arg) ∷ []) ≡ m.next (replay m flow xs) way arg
replay-append m flow [] way arg = refl
replay-append m flow (x ∷ xs) way arg = replay-append m (m.next flow x.0 x.1) xs way arg

is_id-self : (id : ConnId) → is_id id id ≡ true
is_id-self id = (is_id-Decides id id).1 refl

starts_by : {S A : Type 0} (id : ConnId) (act : Act S A) (packet : ℕ) (init : S) → act ≡ Start id packet init → start_of id act ≡ Some init
starts_by id act packet init e = rw (e, is_id-self id) refl

steps_by : {S A R : Type 0} (id : ConnId) (act : Act S A) (reply : Reply R) (packet : ℕ) (way : Way) (arg : A) (answer : R) (n : ℕ) →
    act ≡ Step packet id way arg → reply ≡ ToStep (Stepped.Done answer n) → step_of id act reply ≡ Some (way, arg)
steps_by id act reply packet way arg answer n e r = rw (e, r, is_id-self id) refl

-- nothing was started or stepped
record IsUnborn {S A R : Type 0} (past : List (Entry S A R)) (id : ConnId) : Type 0 where
  started : starts id past ≡ []
  stepped : done_steps id past ≡ []

counts_on : {X : Type 0} (xs : List X) (x : X) (n : ℕ) → n ≡ min (1 + length xs) (2 ^ 64 - 1) → min (n + 1) (2 ^ 64 - 1) ≡ min (1 + length (xs ++ x ∷ [])) (2 ^ 64 - 1)
counts_on xs x n e = rw length-append (omega arith)

-- what the past tells of a life
abbrev Told : {S A R : Type 0} → Meaning S A R → List (Entry S A R) → ConnId → Life S → Type 0
Told m past id to_come = IsUnborn past id
Told m past id (built seat) = IsUnborn past id
Told m past id (lives flow n) = IsReplay m past id flow n
Told m past id killed = Unit {0}
Told m past id gone = Unit {0}

module _ {S A R : Type 0} (m : Meaning S A R) (past : List (Entry S A R)) (entry : Entry S A R) (id : ConnId) where
  -- an entry that starts and steps nothing changes neither list
  same_starts : start_of id entry.act ≡ None → starts id (past ++ entry ∷ []) ≡ starts id past
  same_starts e = passed (λ x. start_of id x.act) past entry e

  same_steps : step_of id entry.act entry.reply ≡ None → done_steps id (past ++ entry ∷ []) ≡ done_steps id past
  same_steps e = passed (λ x. step_of id x.act x.reply) past entry e

  still_unborn : start_of id entry.act ≡ None → step_of id entry.act entry.reply ≡ None → IsUnborn past id → IsUnborn (past ++ entry ∷ []) id
  still_unborn s t u = record { started = same_starts s ∙ u.started; stepped = same_steps t ∙ u.stepped }

  silent_tells : (x : Life S) → IsSilent entry.act entry.reply id → Told m past id x → Told m (past ++ entry ∷ []) id x
  silent_tells to_come s u = still_unborn s.start s.step u
  silent_tells (built seat) s u = still_unborn s.start s.step u
  silent_tells (lives flow n) s r = record {
    init = r.init;
    started = same_starts s.start ∙ r.started;
    replayed = rw (same_steps s.step) r.replayed;
    counted = rw (same_steps s.step) r.counted;
  }
  silent_tells killed s u = tt
  silent_tells gone s u = tt

  tells : (x y : Life S) → Moves m entry.seat entry.act entry.reply id x y → Told m past id x → Told m (past ++ entry ∷ []) id y
  tells _ _ (keeps {x} silent) u = silent_tells x silent u
  tells _ _ (claims packet act reply) u = still_unborn (rw act refl) (rw act refl) u
  tells _ _ (is_start packet init act answer) u =
      let none : done_steps id (past ++ entry ∷ []) ≡ [] = same_steps (rw act refl) ∙ u.stepped in
      record {
        init = init;
        started = kept (λ x. start_of id x.act) past entry init (starts_by id entry.act packet init act) ∙ rw u.started refl;
        replayed = rw none refl;
        counted = rw none refl;
      }
  tells _ _ (is_step packet way arg flow n act reply) r =
      let more : done_steps id (past ++ entry ∷ []) ≡ done_steps id past ++ (way, arg) ∷ [] =
      kept (λ x. step_of id x.act x.reply) past entry (way, arg) (steps_by id entry.act entry.reply packet way arg _ n act reply) in
      record {
        init = r.init;
        started = same_starts (rw act refl) ∙ r.started;
        replayed = rw (more, replay-append m r.init (done_steps id past) way arg, ← r.replayed) refl;
        counted = rw more (counts_on (done_steps id past) (way, arg) n r.counted);
      }
  tells _ _ (abandons act answer) u = tt
  tells _ _ (expires now flow n act answer due) r = tt
  tells _ _ (frees act answer) u = tt

module _ {S A R : Type 0} (m : Meaning S A R) (slots : ℕ) where
  told : (history : List (Entry S A R)) (id : ConnId) → Legal m slots history → Told m history id (life_of (state_of m history) id)
  told history id legal =
      by_entries m slots (λ past k. Told m past id (life_of k id))
      (λ past k entry t f. tells m past entry id _ _ (entry_moves m slots k entry id f) t)
      [] opening history (life_of-opening (Told m [] id) id (record { started = refl; stepped = refl }) tt) legal

  -- a life that shows a Live connection is one
  shows : (history : List (Entry S A R)) (id : ConnId) (flow : S) (n : ℕ) (x : Life S) → stage_in x ≡ Live flow n → Told m history id x → IsReplay m history id flow n
  shows history id flow n to_come e t = absurd cc
  shows history id flow n (built seat) e t = absurd cc
  shows history id flow n (lives other k) e t = let flows : other ≡ flow = cc in let counts : k ≡ n = cc in rw (← flows, ← counts) t
  shows history id flow n killed e t = absurd cc
  shows history id flow n gone e t = absurd cc

  -- a Live connection's flow is the replay of its start and its Done Steps
  pub replays_flows : ReplaysFlows m slots
  replays_flows history id flow n legal e =
      shows history id flow n (life_of (state_of m history) id) (sym (stage_of-is (state_of m history) id) ∙ e) (told history id legal)

  -- a Step that is Done finds the connection Live, and answers by its flow
  done_live : (way : Way) (arg : A) (reply : R) (place : ℕ) (stage : Stage S) → Stepped.Done reply place ≡ step_answer m way arg stage →
      (flow : S) × (stage ≡ Live flow place) × (reply ≡ m.answer flow way arg)
  done_live way arg reply place Vacant e = absurd cc
  done_live way arg reply place (Building seat) e = absurd cc
  done_live way arg reply place (Live flow n) e = let counts : place ≡ n = cc in (flow, rw counts refl, cc)
  done_live way arg reply place Dead e = absurd cc

  -- a Done Step answers by the replay of those before it
  pub replays_answers : ReplaysAnswers m slots
  replays_answers before rest entry id way arg reply place legal step =
      let follows = MayFollow-split m slots before rest entry legal in
      let stage = stage_of (state_of m before) id in
      let replied : entry.reply ≡ ToStep (step_answer m way arg stage) = rw step.act at follows.replied in
      let done : Stepped.Done reply place ≡ step_answer m way arg stage = cc (replied, step.done) in
      let found = done_live way arg reply place stage done in
      record {
        flow = found.0;
        replay = replays_flows before id found.0 place (LegalFrom-front m slots opening before (entry ∷ rest) legal) found.1;
        answer = found.2;
      }
