-- The reason of the map that is written at a place of the text.
use Rattle.std.specs.Prelude.{ℕ, ◌==◌, if◌then◌else◌, Option, None, List, [], ◌∷◌, drop, zip}
use Rattle.std.specs.Option.{option_or}
use Rattle.npf_syntax.specs.declared.stmt.Stmt.{Stmt}
use Rattle.npf_syntax.specs.declared.stmt.Tree.{Tree}
use Rattle.npf_model.specs.declared.map.Map.{Map}
use Rattle.npf_model.specs.declared.model.Model.{Model}
use Rattle.npf_check.specs.Name.{no_text}
use Rattle.npf_check.specs.WrittenMap.{WrittenMap, written_maps}
use Rattle.npf_why_map.specs.declared.reason.MapReason.{MapReason}
use Rattle.npf_why_map.specs.Reason.{map_reason}

-- the first answer that there is
abbrev pub first_some : {A B : Type 0} → (A → Option B) → List A → Option B
first_some ask [] = None
first_some ask (x ∷ xs) = option_or (ask x) (first_some ask xs)

-- of what the text says of a map and what that means; none of a map that is written elsewhere
abbrev pub reason_of : ℕ → WrittenMap × Map → Option MapReason
reason_of at pair = if pair.0.span.at == at then map_reason pair.0.by_table pair.0.kind pair.1 else None

abbrev pub first_reason : ℕ → List (WrittenMap × Map) → Option MapReason
first_reason at pairs = first_some (reason_of at) pairs

-- why the map that is written at this byte can't be
abbrev pub reason_at : ℕ → Tree → Model → Option MapReason
reason_at at tree model = first_reason at (zip (written_maps no_text tree.stmts) model.maps)

-- the maps that are left of those of a model, behind a statement
abbrev pub maps_behind : Stmt → List Map → List Map
maps_behind (Stmt.Map iface kind proto left arrow right pass span) maps = drop 1 maps
maps_behind _ maps = maps
