-- Each place stands at one level.
use Rattle.std.proofs.Common.{◌≡◌, ℕ, ◌+◌, ◌-◌, List, get_or, refl, sym, ◌∙◌, arith}
use Rattle.npf_paths.specs.{declared.{cell.Cell.Cell, place.Place.{Place, TheVariants.Node}}, FillingLaw.FillsPlace, Growing.{IsPlaceOf, GrowsBranch}}
use Rattle.npf_paths.specs.{GrowingLaw.{IsGrownPlace, IsPlaceNow, IsPlaceNow.{place_stays, place_is_there, place_grew}}, LevelLaw.{MeetsAtOneLevel, AreApart}}
use Rattle.npf_paths.{specs.Paths.{AreDigits, IsOnPath, IsEnd, IsOnPath.{at_root, further}}, proofs.FillingLemmas.{filled_back, filled_places}}
use Rattle.npf_paths.proofs.{GrowingLemmas.growth_told, PathLemmas.node_no_end}

bare_level : (cell : Place → Cell) → ((q : Place) → IsEnd (cell q)) → {digits : ℕ → ℕ} {l : ℕ} {q : Place} → IsOnPath digits cell l q → l ≡ 0
bare_level cell ends at_root = refl
bare_level cell ends (further level p node on is) = absurd (node_no_end (cell p) node (ends p) is)

pub bare_has_levels : (cell : Place → Cell) → ((q : Place) → IsEnd (cell q)) → MeetsAtOneLevel cell
bare_has_levels cell ends digits digits' l l' q small small' on on' = bare_level cell ends on ∙ sym (bare_level cell ends on')

pub filled_levels : {cell cell' : Place → Cell} {p : Place} → FillsPlace cell cell' p → MeetsAtOneLevel cell → MeetsAtOneLevel cell'
filled_levels fills levels digits digits' l l' q small small' on on' =
    levels digits digits' l l' q small small' (filled_places (filled_back fills) on) (filled_places (filled_back fills) on')

module _ (mine theirs : ℕ → ℕ) (cell cell' : Place → Cell) (leaf other : Cell) (level : ℕ) (p : Place) (first : ℕ) (nodes : List ℕ) where
  module _ (grows : GrowsBranch mine theirs cell cell' leaf other level p first nodes) (apart : AreApart nodes) (levels : MeetsAtOneLevel cell) where
    -- two places of new nodes, of which the second is the first
    grown_at_one : (digits digits' : ℕ → ℕ) (l l' : ℕ) (q : Place) → IsGrownPlace digits cell level p nodes l q → IsGrownPlace digits' cell level p nodes l' q → l ≡ l'
    grown_at_one digits digits' l l' q g g' =
        let below = g.below in
        let last = g.last in
        let below' = g'.below in
        let last' = g'.last in
        let places : Node (get_or nodes (l - (level + 1)) 0) (digits l) ≡ Node (get_or nodes (l' - (level + 1)) 0) (digits' l') = sym g.is ∙ g'.is in
        let nodes_same : get_or nodes (l - (level + 1)) 0 ≡ get_or nodes (l' - (level + 1)) 0 = cc in
        let same : l - (level + 1) ≡ l' - (level + 1) = apart (l - (level + 1)) (l' - (level + 1)) (omega arith) (omega arith) nodes_same in
        omega arith

    -- no place of before is one of a new node
    old_not_grown : (digits : ℕ → ℕ) (l : ℕ) (q : Place) → AreDigits digits → IsOnPath digits cell l q → ¬ (IsPlaceOf nodes q)
    old_not_grown digits l q small on = grows.fresh digits l q small on

    there_not_grown : (digits digits' : ℕ → ℕ) (l' : ℕ) (q : Place) → AreDigits digits → IsOnPath digits cell level p → q ≡ p →
        ¬ (IsGrownPlace digits' cell level p nodes l' q)
    there_not_grown digits digits' l' q small from e g = old_not_grown digits level p small from (rw e at g.within)

    one_level : (digits digits' : ℕ → ℕ) (l l' : ℕ) (q : Place) → AreDigits digits → AreDigits digits' →
        IsPlaceNow digits cell cell' level p nodes l q → IsPlaceNow digits' cell cell' level p nodes l' q → l ≡ l'
    one_level digits digits' l l' q small small' (place_stays on other_place kept) (place_stays on' _ _) = levels digits digits' l l' q small small' on on'
    one_level digits digits' l l' q small small' (place_stays on other_place kept) (place_is_there from same e) = absurd (other_place e)
    one_level digits digits' l l' q small small' (place_stays on other_place kept) (place_grew g) = absurd (old_not_grown digits l q small on g.within)
    one_level digits digits' l l' q small small' (place_is_there from same e) (place_stays on other_place kept) = absurd (other_place e)
    one_level digits digits' l l' q small small' (place_is_there from same e) (place_is_there from' same' e') = same ∙ sym same'
    one_level digits digits' l l' q small small' (place_is_there from same e) (place_grew g) = absurd (there_not_grown digits digits' l' q small from e g)
    one_level digits digits' l l' q small small' (place_grew g) (place_stays on other_place kept) = absurd (old_not_grown digits' l' q small' on g.within)
    one_level digits digits' l l' q small small' (place_grew g) (place_is_there from same e) = absurd (there_not_grown digits' digits l q small' from e g)
    one_level digits digits' l l' q small small' (place_grew g) (place_grew g') = grown_at_one digits digits' l l' q g g'

    pub grown_levels : MeetsAtOneLevel cell'
    grown_levels digits digits' l l' q small small' on on' =
        let told = growth_told mine theirs cell cell' leaf other level p first nodes grows in
        one_level digits digits' l l' q small small' (told.places digits l q small on) (told.places digits' l' q small' on')
