-- A part that is split by another box, dimension by dimension; and what parts have together.
use Rattle.std.proofs.Common.{◌≡◌, ◌≢◌, ℕ, ◌+◌, ◌<◌, ◌≤◌, ◌&&◌, ◌||◌, Bool, true, false, not, Some, List, [], ◌∷◌, ◌++◌, length, get_or, refl, sym, subst, ap, ◌∙◌, inl, inr, arith}
use Rattle.std.{specs.{List.list_any, Prelude.All}, proofs.lemmas.List.{Elements.{All-pop, All-push}, Folds.list_any-append}}
use Rattle.std.proofs.lemmas.Bool.{and_from, and_parts, both_ways, cases_eq, or_cases, or_left, or_parts, true_from_ne_false}
use Rattle.npf_bits.specs.Bits.{has}
use Rattle.npf_boxes.specs.declared.{box_list.Boxes.Boxes, part.BoxPart.BoxPart, shape.Shape.Shape}
use Rattle.npf_boxes.specs.Cell.{IsPart, any_has, in_box, section, words_of}
use Rattle.npf_boxes.specs.Fit.{IsWithinAt}
use Rattle.npf_boxes.specs.Part.{IsPartOf, any_part_has}
use Rattle.npf_boxes.proofs.CellLemmas.{box_from, box_parts, changed_has, changed_within, or_none, removed_has}

pub any_pushed : (shape : Shape) (parts : List BoxPart) (part : BoxPart) (cell : List ℕ)
    → any_part_has shape (parts ++ part ∷ []) cell ≡ (any_part_has shape parts cell || in_box shape part.words.items cell)
any_pushed shape parts part cell =
    let test : BoxPart → Bool = λ p. in_box shape p.words.items cell in
    list_any-append test parts (part ∷ []) ∙ ap (λ t. list_any test parts || t) (or_none (test part) false refl)

-- so far the dimensions before one are done: what isn't in a part is in the rest, and in the other box as far as those dimensions tell
pub record IsSplit (boxes : Boxes) (part : BoxPart) (theirs : List ℕ) (before : List BoxPart) (rest : List ℕ) (parts : List BoxPart) (at : ℕ) : Type 0 where
  pub whole : length rest ≡ words_of boxes.shape
  pub within : IsPart boxes.shape rest part.words.items
  pub parts_of : (box numbers : List ℕ) → IsPartOf boxes box numbers part → All (IsPartOf boxes box numbers) before → All (IsPartOf boxes box numbers) parts
  pub kept : (cell : List ℕ) → any_part_has boxes.shape before cell ≡ true → any_part_has boxes.shape parts cell ≡ true
  pub gone : (cell : List ℕ) → in_box boxes.shape part.words.items cell ≡ true → any_part_has boxes.shape parts cell ≡ false
      → (in_box boxes.shape rest cell ≡ true) × ((d : ℕ) → d < at → has (section boxes.shape d theirs) (get_or cell d 0) ≡ true)

pub split_first : (boxes : Boxes) (part : BoxPart) (theirs : List ℕ) (before : List BoxPart) → length part.words.items ≡ words_of boxes.shape
    → IsSplit boxes part theirs before part.words.items before 0
split_first boxes part theirs before whole = record {
  whole = whole;
  within = λ cell in_own. in_own;
  parts_of = λ box numbers of all. all;
  kept = λ cell any. any;
  gone = λ cell in_own none. (in_own, λ d low. absurd (omega arith));
}

-- a dimension in which the other has the rest
pub split_within : (boxes : Boxes) (part : BoxPart) (theirs : List ℕ) (before : List BoxPart) (rest : List ℕ) (parts : List BoxPart) (at : ℕ) → at < 6
    → IsSplit boxes part theirs before rest parts at → IsWithinAt boxes.shape rest theirs at → IsSplit boxes part theirs before rest parts (at + 1)
split_within boxes part theirs before rest parts at low so_far within = record {
  whole = so_far.whole;
  within = so_far.within;
  parts_of = so_far.parts_of;
  kept = so_far.kept;
  gone = λ cell in_own none.
      let known = so_far.gone cell in_own none in (
        known.0,
        λ d below. elim (cases_eq d at) [
          | inl same ↦ ap (λ k. has (section boxes.shape k theirs) (get_or cell k 0)) same ∙ within (get_or cell at 0) (box_parts boxes.shape rest cell known.0 at low)
          | inr other ↦ known.1 d (omega arith)
        ],
      );
}

-- one that it leaves open: a part has what it hasn't, and the rest has what it has
pub record IsCut (shape : Shape) (at : ℕ) (rest theirs cut : List ℕ) : Type 0 where
  pub len : length cut ≡ length rest
  pub here : (n : ℕ) → has (section shape at cut) n ≡ (has (section shape at rest) n && not (has (section shape at theirs) n))
  pub elsewhere : (e : ℕ) → e < 6 → e ≢ at → section shape e cut ≡ section shape e rest

pub record IsKept (shape : Shape) (at : ℕ) (rest theirs kept : List ℕ) : Type 0 where
  pub len : length kept ≡ length rest
  pub here : (n : ℕ) → has (section shape at kept) n ≡ (has (section shape at rest) n && has (section shape at theirs) n)
  pub elsewhere : (e : ℕ) → e < 6 → e ≢ at → section shape e kept ≡ section shape e rest

pub split_open : (boxes : Boxes) (part more : BoxPart) (theirs : List ℕ) (before : List BoxPart) (rest cut kept : List ℕ) (parts after : List BoxPart) (at : ℕ) → at < 6
    → IsSplit boxes part theirs before rest parts at → IsCut boxes.shape at rest theirs cut → IsKept boxes.shape at rest theirs kept
    → more.words.items ≡ cut → more.others.value.items ≡ part.others.value.items → after ≡ parts ++ more ∷ []
    → IsSplit boxes part theirs before kept after (at + 1)
split_open boxes part more theirs before rest cut kept parts after at low so_far is_cut is_kept words others after_is = record {
  whole = is_kept.len ∙ so_far.whole;
  within = λ cell in_kept. so_far.within cell (kept_within cell in_kept);
  parts_of = λ box numbers of all.
      let P : List BoxPart → Type 0 = All (IsPartOf boxes box numbers) in
      subst P (sym after_is) (All-push (IsPartOf boxes box numbers) parts more (so_far.parts_of box numbers of all) (is_part box numbers of));
  kept = λ cell any. pushed cell ∙ or_left _ _ (so_far.kept cell any);
  gone = λ cell in_own none.
      let apart = or_parts _ _ (sym (pushed cell) ∙ none) in
      let known = so_far.gone cell in_own apart.0 in
      let there = removed_has boxes.shape at rest cut theirs cell low is_cut.here is_cut.elsewhere known.0 apart.1 in
      let kept_there = is_kept.here (get_or cell at 0) ∙ and_from _ _ (box_parts boxes.shape rest cell known.0 at low) there in (
        changed_has boxes.shape at rest kept cell is_kept.elsewhere known.0 kept_there,
        λ d below. elim (cases_eq d at) [
          | inl same ↦ ap (λ k. has (section boxes.shape k theirs) (get_or cell k 0)) same ∙ there
          | inr other ↦ known.1 d (omega arith)
        ],
      );
}
  where
    pushed : (cell : List ℕ) → any_part_has boxes.shape after cell ≡ (any_part_has boxes.shape parts cell || in_box boxes.shape cut cell)
    pushed cell =
        ap (λ ps. any_part_has boxes.shape ps cell) after_is ∙ any_pushed boxes.shape parts more cell
        ∙ ap (λ xs. any_part_has boxes.shape parts cell || in_box boxes.shape xs cell) words

    kept_within : IsPart boxes.shape kept rest
    kept_within = changed_within boxes.shape at rest kept low (λ n in_kept. (and_parts _ _ (sym (is_kept.here n) ∙ in_kept)).0) is_kept.elsewhere

    more_within : IsPart boxes.shape more.words.items part.words.items
    more_within cell in_more =
        let in_cut : in_box boxes.shape cut cell ≡ true = sym (ap (λ xs. in_box boxes.shape xs cell) words) ∙ in_more in
        so_far.within cell (changed_within boxes.shape at rest cut low (λ n in_set. (and_parts _ _ (sym (is_cut.here n) ∙ in_set)).0) is_cut.elsewhere cell in_cut)

    is_part : (box numbers : List ℕ) → IsPartOf boxes box numbers part → IsPartOf boxes box numbers more
    is_part box numbers of = record {
      whole = ap length words ∙ is_cut.len ∙ so_far.whole;
      within = λ cell in_more. of.within cell (more_within cell in_more);
      same = λ cell in_more. ap (λ xs. any_has boxes xs cell) others ∙ of.same cell (more_within cell in_more);
      known = let P : List ℕ → Type 0 = All (λ other. other < boxes.count) in subst P (sym others) of.known;
    }

-- in the end what the other hasn't is in a part
pub split_last : (boxes : Boxes) (part : BoxPart) (theirs : List ℕ) (before : List BoxPart) (rest : List ℕ) (parts : List BoxPart) (at : ℕ) → 6 ≤ at
    → IsSplit boxes part theirs before rest parts at
    → (cell : List ℕ) → in_box boxes.shape part.words.items cell ≡ true → in_box boxes.shape theirs cell ≡ false → any_part_has boxes.shape parts cell ≡ true
split_last boxes part theirs before rest parts at all so_far cell in_own out =
    true_from_ne_false _ (λ none.
    let known = so_far.gone cell in_own none in
    both_ways _ out (box_from boxes.shape theirs cell (λ d low. known.1 d (omega arith))))

-- ---- the search goes on: a part was taken off, and what others may not have of it came onto the parts
pub gone_on : (boxes : Boxes) (box others : List ℕ) (part : BoxPart) (parts rest after : List BoxPart) → parts ≡ rest ++ part ∷ []
    → All (IsPartOf boxes box others) parts
    → ((cell : List ℕ) → in_box boxes.shape box cell ≡ true → any_has boxes others cell ≡ false → any_part_has boxes.shape parts cell ≡ true)
    → (IsPartOf boxes box others part → All (IsPartOf boxes box others) rest → All (IsPartOf boxes box others) after)
    → ((cell : List ℕ) → any_part_has boxes.shape rest cell ≡ true → any_part_has boxes.shape after cell ≡ true)
    → ((cell : List ℕ) → in_box boxes.shape part.words.items cell ≡ true → any_has boxes part.others.value.items cell ≡ false
    → any_part_has boxes.shape after cell ≡ true)
    → All (IsPartOf boxes box others) after
    × ((cell : List ℕ) → in_box boxes.shape box cell ≡ true → any_has boxes others cell ≡ false → any_part_has boxes.shape after cell ≡ true)
gone_on boxes box others part parts rest after is all cover replaced kept left =
    let both = All-pop (IsPartOf boxes box others) parts rest (Some part) is all in (
      replaced both.1 both.0,
      λ cell in_own none.
          elim (or_cases _ _ (sym (ap (λ ps. any_part_has boxes.shape ps cell) is ∙ any_pushed boxes.shape rest part cell) ∙ cover cell in_own none)) [
            | inl in_rest ↦ kept cell in_rest
            | inr in_part ↦ left cell in_part (both.1.same cell in_part ∙ none)
          ],
    )
