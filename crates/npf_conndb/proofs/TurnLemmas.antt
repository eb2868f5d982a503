-- What a pass may step and start, and that it then is between calls again.
use Rattle.std.{proofs.Common.{◌≡◌, ℕ, ◌<◌, subst}, specs.List.Contains}
use Rattle.npf_core.{specs.{declared.{conn_id.ConnId.ConnId, entry.Entry.Entry}, History.IsPrefix, Meaning.Meaning}, proofs.SlotLemmas.slot_exists}
use Rattle.npf_connections.{specs.{Answered.without, Pass.{Pass, IsPass, Knows}}, proofs.StayLemmas.known_claimed}
use Rattle.npf_cells_lives.specs.Notes.{notes_elsewhere}
use Rattle.npf_cells_rule.specs.{declared.view.CellView.CellView, Passes.cell_pass}
use Rattle.npf_conndb.{specs.Between.IsBetweenCalls, proofs.{BuildLemmas.noted_less, PassLemmas.{hands, still_between}}}

-- what a pass knows lies in a slot of its table
pub known_exists : {S A R : Type 0} (m : Meaning S A R) (pass : Pass (Entry S A R)) (slots : ℕ) (id : ConnId) → pass.slots ≡ slots → IsPass m pass → Knows pass id → id.slot < slots
known_exists m pass slots id sized is known = subst (λ n. id.slot < n) sized (slot_exists m pass.slots pass.history id is.legal (known_claimed m pass id is known))

-- who started what it was building is between calls again
pub started_between : {S A R : Type 0} (m : Meaning S A R) (old now : CellView S A R) (id : ConnId) → hands now ≡ hands old →
    IsPass m (cell_pass old) → IsPass m (cell_pass now) → IsPrefix old.seats.history now.seats.history →
    Contains old.pools.builds id → now.pools.builds ≡ without id old.pools.builds → now.pools.notes ≡ notes_elsewhere id.slot old.pools.notes → IsBetweenCalls m old → IsBetweenCalls m now
started_between m old now id same was is on built builds notes between = still_between m old now same (noted_less m old now was is on between.noted id built builds notes) between
