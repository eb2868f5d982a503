-- The places and the end of one path.
use Rattle.std.proofs.Common.{◌≡◌, ℕ, ◌≤◌, refl, ap, sym, ◌∙◌, arith}
use Rattle.npf_paths.specs.{declared.{cell.Cell.Cell, place.Place.{Place, TheVariants.Node}}, PathLaw.AgreesOnPath, Paths.{IsOnPath, IsEnd, EndsAt}}
use Rattle.npf_paths.specs.declared.cell.Cell.TheVariants as Cells
use Rattle.npf_paths.specs.Paths.IsOnPath.{at_root, further}

-- a node is no end
pub node_no_end : (c : Cell) (node : ℕ) → IsEnd c → ¬ (c ≡ Cells.Node node)
node_no_end Cells.Empty node ends e = cc
node_no_end (Cells.Leaf slot way) node ends e = cc
node_no_end (Cells.Node other) node ends e = ends
node_no_end Cells.Mark node ends e = cc

-- two places of one level are one
pub one_place : {digits : ℕ → ℕ} {cell : Place → Cell} {level level' : ℕ} {p q : Place} →
    IsOnPath digits cell level p → IsOnPath digits cell level' q → level ≡ level' → p ≡ q
one_place at_root at_root e = refl
one_place at_root (further level p node on is) e = absurd (omega arith)
one_place (further level p node on is) at_root e = absurd (omega arith)
one_place {digits} {cell} (further level p node on is) (further level' p' node' on' is') e =
    let levels : level ≡ level' = omega arith in
    let places : p ≡ p' = one_place on on' levels in
    let nodes : Cells.Node node ≡ Cells.Node node' = sym is ∙ (ap cell places ∙ is') in
    let node_same : node ≡ node' = cc in
    λ i. Node (node_same i) (digits (e i))

-- no place of a path is met past its end
pub none_behind_end : {digits : ℕ → ℕ} {cell : Place → Cell} {level level' : ℕ} {p q : Place} →
    EndsAt digits cell level p → IsOnPath digits cell level' q → level' ≤ level
none_behind_end ends at_root = omega arith
none_behind_end {digits} {cell} {level} {p = p} ends (further level' p' node on is) =
    let within : level' ≤ level = none_behind_end ends on in
    let apart : ¬ (level' ≡ level) = λ e.
    let places : p' ≡ p = one_place on ends.on_path e in
    node_no_end (cell p) node ends.is_end (ap cell (sym places) ∙ is) in
    omega arith

-- two ends are one
pub one_end : {digits : ℕ → ℕ} {cell : Place → Cell} {level level' : ℕ} {p q : Place} →
    EndsAt digits cell level p → EndsAt digits cell level' q → (level ≡ level') × (p ≡ q)
one_end {level = level} {level'} ends ends' =
    let up : level' ≤ level = none_behind_end ends ends'.on_path in
    let down : level ≤ level' = none_behind_end ends' ends.on_path in
    let levels : level ≡ level' = omega arith in
    (levels, one_place ends.on_path ends'.on_path levels)

-- a path is the same wherever its own places have the same cells
pub same_places_back : {digits : ℕ → ℕ} {cell cell' : Place → Cell} {level : ℕ} {p : Place} →
    AgreesOnPath digits cell cell' → IsOnPath digits cell level p → IsOnPath digits cell' level p
same_places_back agrees at_root = at_root
same_places_back agrees (further level p node on is) = further level p node (same_places_back agrees on) (agrees level p on ∙ is)

pub same_places : {digits : ℕ → ℕ} {cell cell' : Place → Cell} {level : ℕ} {p : Place} →
    AgreesOnPath digits cell cell' → IsOnPath digits cell' level p → IsOnPath digits cell level p
same_places agrees at_root = at_root
same_places agrees (further level p node on is) =
    let before = same_places agrees on in
    further level p node before (sym (agrees level p before) ∙ is)

pub same_end_back : {digits : ℕ → ℕ} {cell cell' : Place → Cell} {level : ℕ} {p : Place} →
    AgreesOnPath digits cell cell' → EndsAt digits cell level p → EndsAt digits cell' level p
same_end_back {level = level} {p} agrees ends = record {
  on_path = same_places_back agrees ends.on_path;
  is_end = rw (agrees level p ends.on_path) ends.is_end;
}

pub same_end : {digits : ℕ → ℕ} {cell cell' : Place → Cell} {level : ℕ} {p : Place} →
    AgreesOnPath digits cell cell' → EndsAt digits cell' level p → EndsAt digits cell level p
same_end {level = level} {p} agrees ends =
    let before = same_places agrees ends.on_path in
    record { on_path = before; is_end = rw (← agrees level p before) ends.is_end }
