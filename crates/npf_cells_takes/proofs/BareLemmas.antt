-- A connection that is over, and that holds no key, holds none ever after.
use Rattle.std.proofs.Common.{◌≡◌, ℕ, List}
use Rattle.npf_core.specs.{declared.{conn_id.ConnId.ConnId, entry.Entry.Entry, stage.Stage.TheVariants.Dead}, History.{Legal, IsPrefix, state_of}}
use Rattle.npf_core.specs.{Machine.stage_of, Meaning.Meaning}
use Rattle.npf_cells_lives.specs.Deaths.{IsKeyless}
use Rattle.npf_cells_rule.proofs.OverLemmas.{held_so_far}

-- who was seen Dead and without keys holds none
pub still_bare : {S A R : Type 0} (m : Meaning S A R) (slots : ℕ) (id : ConnId) (history log : List (Entry S A R)) → Legal m slots log →
    IsPrefix history log → stage_of (state_of m history) id ≡ Dead → IsKeyless (state_of m history) id → IsKeyless (state_of m log) id
still_bare m slots id history log legal seen dead bare way key held = bare way key (held_so_far m slots id history log legal seen dead way key held)
