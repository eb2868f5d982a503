-- A connection that a pass builds without keys and then kills has none.
use Rattle.std.{specs.List.Contains, proofs.Common.{◌≡◌, ℕ, ◌==◌, Bool, true, false, cond, List, [], ◌∷◌, refl, sym, ap, ◌∙◌, subst}}
use Rattle.std.proofs.lemmas.Bool.Decides.{Decides-eqb, not_from_Decides}
use Rattle.atomic_table.specs.Table.{Me}
use Rattle.npf_core.specs.declared.{act.Act.TheVariants.Kill, conn_id.ConnId.ConnId, entry.Entry.Entry, reply.Reply.TheVariants.Nothing}
use Rattle.npf_core.specs.declared.act.Why.TheVariants as Reasons
use Rattle.npf_core.specs.{declared.stage.Stage.TheVariants.{Building, Dead}, History.{LegalFrom, Legal, after, by, state_from, state_of}}
use Rattle.npf_core.{specs.{Machine.{Machine, stage_of}, Meaning.Meaning}, proofs.BuildingLemmas.{builds_by, holds_none_by}}
use Rattle.npf_core.proofs.{HistoryLemmas.{state_from-append, state_of-append, LegalFrom-rest, MayFollow-split}, LifeLemmas.{stage_of-is, life_of}}
use Rattle.npf_connections.specs.Pass.{IsPass}
use Rattle.npf_cells_lives.{specs.{Deaths.IsKeyless, Turns.Running}, proofs.ConnLemmas.building_at}
use Rattle.npf_cells_rule.{specs.{declared.view.CellView.CellView, Passes.cell_pass}, proofs.OverLemmas.{over_dead, held_before}}
use Rattle.npf_cells_takes.specs.PrivateKinds.{HasSeenBare}
use Rattle.npf_cells_turns.proofs.{ActLemmas.kills_on, DeathEndLemmas.killed_stage}
use Rattle.npf_turn.specs.{Done.HasKilled, KillLaw.KillsBare}

module _ {S A R : Type 0} (m : Meaning S A R) (slots seat : ℕ) (id : ConnId) where
  abbrev entry : Entry S A R
  entry = record { seat = seat; act = Kill id Reasons.Abandoned; reply = Nothing }

  -- it is Dead after its kill
  killed_by : (k : Machine S) → stage_of k id ≡ Building seat → stage_of (after m k entry) id ≡ Dead
  killed_by k built = killed_stage k (after m k entry) id.slot Dead (kills_on m k seat id id.slot refl Reasons.Abandoned) id refl (building_at (k.slot id.slot) id.inc seat built).0 refl

  -- and no entry gives it a key
  keyless_after : (k : Machine S) (entries : List (Entry S A R)) → LegalFrom m slots k entries → by seat entries ≡ entry ∷ [] →
      stage_of k id ≡ Building seat → IsKeyless k id → IsKeyless (state_from m k entries) id
  keyless_after k [] legal own built bare = absurd cc
  keyless_after k (e ∷ es) legal own built bare =
      by_seat (λ rest built' bare'. keyless_after (after m k e) es legal.1 rest built' bare') (e.seat == seat) refl own
    where
      killed : e ≡ entry → IsKeyless (state_from m (after m k e) es) id
      killed same =
          let dead : stage_of (after m k e) id ≡ Dead = ap (λ x. stage_of (after m k x) id) same ∙ killed_by k built in
          let holders : IsKeyless (after m k e) id = subst (λ x. IsKeyless (after m k x) id) (sym same) bare in
          λ way key held. holders way key (held_before m slots id (after m k e) es legal.1 (over_dead (life_of (after m k e) id) (sym (stage_of-is (after m k e) id) ∙ dead)) way key held)

      by_seat : (by seat es ≡ entry ∷ [] → stage_of (after m k e) id ≡ Building seat → IsKeyless (after m k e) id → IsKeyless (state_from m (after m k e) es) id) → (b : Bool) → (e.seat == seat) ≡ b →
          cond b (e ∷ by seat es) (by seat es) ≡ entry ∷ [] → IsKeyless (state_from m (after m k e) es) id
      by_seat on true is own' = killed cc
      by_seat on false is own' =
          let other : ¬ (e.seat ≡ seat) = not_from_Decides _ (Decides-eqb e.seat seat) is in
          on own' (builds_by m slots k e seat id legal.0 other built) (λ way. holds_none_by m slots k e seat id legal.0 other built way (bare way))

module _ {S A R : Type 0} (m : Meaning S A R) (id : ConnId) (old now : Me (Running S) (CellView S A R)) where
  kills : Contains old.0.pools.builds id → HasKilled m id old now → IsPass m (cell_pass old.0) → IsKeyless (state_of m old.0.seats.history) id → HasSeenBare m now.0 id
  kills built done pass bare =
      let seat = old.0.seats.number in
      let adds = done.adds.adds in
      let legal = (done.legal pass).legal in
      let before = done.adds.ends [] (entry m seat seat id) refl in
      let building = pass.building id built in
      let whole : state_of m now.0.seats.history ≡ state_from m (state_of m old.0.seats.history) adds.rest = ap (state_of m) adds.goes_on ∙ state_from-append m _ old.0.seats.history adds.rest in
      let later = LegalFrom-rest m _ _ old.0.seats.history adds.rest (subst (Legal m _) adds.goes_on legal) in
      let follows = MayFollow-split m _ before.0 [] (entry m seat seat id) (subst (Legal m _) before.1 legal) in
      record {
        dead = ap (λ h. stage_of (state_of m h) id) before.1
            ∙ (ap (λ k. stage_of k id) (state_of-append m before.0 (entry m seat seat id)) ∙ killed_by m seat seat id (state_of m before.0) follows.allowed);
        keyless = subst (λ k. IsKeyless k id) (sym whole) (keyless_after m _ seat id (state_of m old.0.seats.history) adds.rest later adds.own building bare);
      }

pub kills_bare : {S A R : Type 0} (m : Meaning S A R) → KillsBare m
kills_bare m id old now built done pass bare = kills m id old now built done pass bare
