-- The identities that calls answer, and those that are left.
use Rattle.std.specs.Prelude.{not, List, [], ◌∷◌, filter, Option, Some, None}
use Rattle.npf_core.specs.declared.conn_id.ConnId.{ConnId}
use Rattle.npf_core.specs.declared.found.Found.{Found}
use Rattle.npf_core.specs.declared.held.Held.{Held}
use Rattle.npf_core.specs.NextState.{is_id}

-- that a look answers
abbrev pub found_ids : Option Found → List ConnId
found_ids None = []
found_ids (Some found) = found.id ∷ []

-- that a begin answers
abbrev pub begun_ids : Option ConnId → List ConnId
begun_ids None = []
begun_ids (Some id) = id ∷ []

-- that a hold answers
abbrev pub taken_ids : Held → List ConnId
taken_ids Held.Done = []
taken_ids (Held.Taken found) = found.id ∷ []
taken_ids Held.NoNode = []

-- all but this one
abbrev pub without : ConnId → List ConnId → List ConnId
without id = filter (λ other. not (is_id other id))
