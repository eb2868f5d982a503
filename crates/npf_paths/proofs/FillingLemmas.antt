-- A place that is filled leaves each path as it was.
use Rattle.std.proofs.{Common.{◌≡◌, ◌≢◌, ℕ, ◌⊎◌, inl, inr, ap, sym, ◌∙◌}, lemmas.Bool.Decides.eqb_tells}
use Rattle.npf_paths.specs.{declared.{cell.Cell.Cell, place.Place.{Place, TheVariants.{Root, Node}}}, FillingLaw.FillsPlace, Paths.{IsOnPath, IsEnd, EndsAt}}
use Rattle.npf_paths.specs.declared.cell.Cell.TheVariants as Cells
use Rattle.npf_paths.{specs.Paths.IsOnPath.{at_root, further}, proofs.PathLemmas.node_no_end}

-- two places are one or not
pub same_or_apart : (p q : Place) → (p ≡ q) ⊎ (p ≢ q)
same_or_apart (Root digit) (Root digit') = elim (eqb_tells digit digit') [ inl t ↦ inl (ap (λ d. Root d) t.1) | inr t ↦ inr (λ e. let same : digit ≡ digit' = cc in t.1 same) ]
same_or_apart (Root digit) (Node node digit') = inr (λ e. cc)
same_or_apart (Node node digit) (Root digit') = inr (λ e. cc)
same_or_apart (Node node digit) (Node node' digit') =
    elim (eqb_tells node node') [
      | inl t ↦ elim (eqb_tells digit digit') [ inl u ↦ inl (λ i. Node (t.1 i) (u.1 i)) | inr u ↦ inr (λ e. let same : digit ≡ digit' = cc in u.1 same) ]
      | inr t ↦ inr (λ e. let same : node ≡ node' = cc in t.1 same)
    ]

-- a place with a node is another than one with an end
pub apart_from_end : (cell : Place → Cell) (p q : Place) (node : ℕ) → IsEnd (cell p) → cell q ≡ Cells.Node node → q ≢ p
apart_from_end cell p q node ends is e = node_no_end (cell p) node ends (ap cell (sym e) ∙ is)

pub filled_back : {cell cell' : Place → Cell} {p : Place} → FillsPlace cell cell' p → FillsPlace cell' cell p
filled_back fills = record { was_end = fills.ends_now; ends_now = fills.was_end; others = λ q apart. sym (fills.others q apart) }

pub filled_places : {digits : ℕ → ℕ} {cell cell' : Place → Cell} {level : ℕ} {p q : Place} →
    FillsPlace cell cell' p → IsOnPath digits cell level q → IsOnPath digits cell' level q
filled_places fills at_root = at_root
filled_places {cell = cell} {p = p} fills (further level q node on is) =
    further level q node (filled_places fills on) (fills.others q (apart_from_end cell p q node fills.was_end is) ∙ is)

pub filled_ends : {digits : ℕ → ℕ} {cell cell' : Place → Cell} {level : ℕ} {p q : Place} →
    FillsPlace cell cell' p → EndsAt digits cell level q → EndsAt digits cell' level q
filled_ends {cell = cell} {cell'} {p = p} {q} fills ends = record {
  on_path = filled_places fills ends.on_path;
  is_end = elim (same_or_apart q p) [ inl e ↦ rw e fills.ends_now | inr apart ↦ rw (fills.others q apart) ends.is_end ];
}
