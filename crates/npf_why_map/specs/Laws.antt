-- What holds of each map that can't be, of each fault 47, and of each reason that is told.
use Rattle.std.specs.Prelude.{◌≡◌, ℕ, ◌||◌, Bool, true, is_some, Some, List, zip}
use Rattle.std.specs.List.{Contains}
use Rattle.npf_faults.specs.declared.fault.ConfFault.{ConfFault}
use Rattle.npf_syntax.specs.declared.map.MapKind.{MapKind}
use Rattle.npf_syntax.specs.declared.stmt.Tree.{Tree}
use Rattle.npf_model.specs.declared.map.Map.{Map}
use Rattle.npf_model.specs.declared.model.Model.{Model}
use Rattle.npf_check.specs.Map.{bad_map_faults, is_bad_map}
use Rattle.npf_check.specs.Name.{no_text}
use Rattle.npf_check.specs.Unbuilt.{is_built_kind}
use Rattle.npf_check.specs.WrittenMap.{WrittenMap, written_maps}
use Rattle.npf_why_map.specs.declared.reason.MapReason.{MapReason}
use Rattle.npf_why_map.specs.Place.{reason_at}
use Rattle.npf_why_map.specs.Reason.{is_reason, map_reason}

-- a map has a reason exactly where npf_check has a fault of it
abbrev pub ReasonsAreOfBadMaps : Type 0
ReasonsAreOfBadMaps = (by_table : Bool) (kind : MapKind) (m : Map) → is_some (map_reason by_table kind m) ≡ (by_table || is_bad_map (is_built_kind kind) m)

-- at the place of each fault there is a reason
abbrev pub EachBadMapHasReason : Type 0
EachBadMapHasReason = (tree : Tree) (model : Model) (fault : ConfFault) → Contains (bad_map_faults tree model) fault → is_some (reason_at fault.span.at tree model) ≡ true

-- a map among these, which are written and mean something, is written at this byte, and this is so of it
pub record IsOfMapAt (at : ℕ) (maps : List (WrittenMap × Map)) (reason : MapReason) : Type 0 where
  pub written : WrittenMap
  pub meant : Map
  pub there : Contains maps (written, meant)
  pub place : written.span.at ≡ at
  pub so : is_reason written.by_table (is_built_kind written.kind) meant reason ≡ true

abbrev pub EachReasonIsOfMap : Type 0
EachReasonIsOfMap =
    (at : ℕ) (tree : Tree) (model : Model) (reason : MapReason) → reason_at at tree model ≡ Some reason
    → IsOfMapAt at (zip (written_maps no_text tree.stmts) model.maps) reason
