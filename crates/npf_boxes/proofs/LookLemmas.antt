-- What a look at another box leaves of a part, and looks at one after the other.
use Rattle.std.proofs.Common.{◌≡◌, ◌≢◌, ℕ, ◌+◌, ◌<◌, ◌≤◌, ◌&&◌, ◌||◌, Bool, true, false, not, List, [], ◌∷◌, ◌++◌, length, get_or, take, drop, refl, sym, subst, ap, ◌∙◌, inl, inr}
use Rattle.std.{specs.{List.list_any, Prelude.All}, proofs.lemmas.List.{take-append-drop, take_all, Elements.{All-nil, All-push}, Folds.{list_any-append, list_any_at, list_any_more}}}
use Rattle.std.proofs.lemmas.Bool.{and_parts, both_ways, cases_Bool, cases_eq, false_from_ne_true, not-true, or_left, or_right}
use Rattle.npf_bits.specs.Bits.{has}
use Rattle.npf_boxes.specs.declared.{box_list.Boxes.Boxes, part.BoxPart.BoxPart}
use Rattle.npf_boxes.specs.Cell.{any_has, box_at, in_box, section, words_of}
use Rattle.npf_boxes.specs.Fit.{IsWithinAt}
use Rattle.npf_boxes.specs.Part.{AreLeft, IsPartOf, Narrows}
use Rattle.npf_boxes.proofs.CellLemmas.{box_from, box_parts, changed_within, or_none, removed_has}

-- ---- what another box has in all dimensions but one is taken off in that one
pub narrows_unit : (boxes : Boxes) (other d : ℕ) (box part theirs left : List ℕ) → d < 6 → theirs ≡ box_at boxes other
    → ((n : ℕ) → has (section boxes.shape d part) n ≡ (has (section boxes.shape d box) n && not (has (section boxes.shape d theirs) n)))
    → ((e : ℕ) → e < 6 → e ≢ d → section boxes.shape e part ≡ section boxes.shape e box)
    → ((e : ℕ) → e < 6 → e ≢ d → IsWithinAt boxes.shape box theirs e)
    → Narrows boxes other box part left left
narrows_unit boxes other d box part theirs left low theirs_is here elsewhere within = record {
  within = changed_within boxes.shape d box part low (λ n in_part. (and_parts _ _ (sym (here n) ∙ in_part)).0) elsewhere;
  lost = λ cell in_own out. ap (λ xs. in_box boxes.shape xs cell) (sym theirs_is) ∙ taken cell in_own out;
  same = λ cell in_part.
      sym (or_none (any_has boxes left cell) (in_box boxes.shape (box_at boxes other) cell)
      (ap (λ xs. in_box boxes.shape xs cell) (sym theirs_is) ∙ not_theirs cell in_part));
  known = λ all. all;
}
  where
    not_theirs : (cell : List ℕ) → in_box boxes.shape part cell ≡ true → in_box boxes.shape theirs cell ≡ false
    not_theirs cell in_part = false_from_ne_true (in_box boxes.shape theirs cell) (λ in_theirs.
        let there : Bool = has (section boxes.shape d theirs) (get_or cell d 0) in
        let at_d = and_parts (has (section boxes.shape d box) (get_or cell d 0)) (not there) (sym (here (get_or cell d 0)) ∙ box_parts boxes.shape part cell in_part d low) in
        both_ways there (not-true there at_d.1) (box_parts boxes.shape theirs cell in_theirs d low))

    taken : (cell : List ℕ) → in_box boxes.shape box cell ≡ true → in_box boxes.shape part cell ≡ false → in_box boxes.shape theirs cell ≡ true
    taken cell in_own out = box_from boxes.shape theirs cell (λ e e_low. elim (cases_eq e d) [
      | inl same ↦
          ap (λ k. has (section boxes.shape k theirs) (get_or cell k 0)) same
          ∙ removed_has boxes.shape d box part theirs cell low here elsewhere in_own out
      | inr other ↦ within e e_low other (get_or cell e 0) (box_parts boxes.shape box cell in_own e e_low)
    ])

-- ---- another box is left
pub narrows_open : (boxes : Boxes) (other : ℕ) (box before left : List ℕ) → other < boxes.count → left ≡ before ++ other ∷ []
    → Narrows boxes other box box before left
narrows_open boxes other box before left known is = record {
  within = λ cell in_own. in_own;
  lost = λ cell in_own out. absurd (both_ways _ out in_own);
  same = λ cell in_own.
      let test : ℕ → Bool = λ number. in_box boxes.shape (box_at boxes number) cell in
      ap (list_any test) is ∙ list_any-append test before (other ∷ []) ∙ ap (λ t. list_any test before || t) (or_none (test other) false refl);
  known = λ all. let P : List ℕ → Type 0 = All (λ number. number < boxes.count) in subst P (sym is) (All-push (λ number. number < boxes.count) before other all known);
}

-- ---- looks one after the other
pub left_first : (boxes : Boxes) (box : List ℕ) → length box ≡ words_of boxes.shape → AreLeft boxes [] box box []
left_first boxes box whole = record {
  whole = whole;
  within = λ cell in_own. in_own;
  lost = λ cell in_own out. absurd (both_ways _ out in_own);
  same = λ cell in_own. refl;
  known = All-nil (λ other. other < boxes.count);
}

pub left_more : (boxes : Boxes) (others box part narrow before left : List ℕ) (i other : ℕ) → i < length others → get_or others i 0 ≡ other
    → length narrow ≡ length part → AreLeft boxes (take i others) box part before → Narrows boxes other part narrow before left
    → AreLeft boxes (take (i + 1) others) box narrow left
left_more boxes others box part narrow before left i other low is len so_far step = record {
  whole = len ∙ so_far.whole;
  within = λ cell in_narrow. so_far.within cell (step.within cell in_narrow);
  lost = λ cell in_own out. more cell ∙ lost cell in_own out (in_box boxes.shape part cell) refl;
  same = λ cell in_narrow.
      step.same cell in_narrow
      ∙ ap (λ t. t || in_box boxes.shape (box_at boxes other) cell) (so_far.same cell (step.within cell in_narrow))
      ∙ sym (more cell);
  known = step.known so_far.known;
}
  where
    more : (cell : List ℕ) → any_has boxes (take (i + 1) others) cell ≡ (any_has boxes (take i others) cell || in_box boxes.shape (box_at boxes other) cell)
    more cell =
        let test : ℕ → Bool = λ number. in_box boxes.shape (box_at boxes number) cell in
        list_any_more test others i 0 low ∙ ap (λ number. list_any test (take i others) || test number) is

    lost : (cell : List ℕ) → in_box boxes.shape box cell ≡ true → in_box boxes.shape narrow cell ≡ false → (b : Bool) → in_box boxes.shape part cell ≡ b
        → (any_has boxes (take i others) cell || in_box boxes.shape (box_at boxes other) cell) ≡ true
    lost cell in_own out true in_part = or_right _ _ (step.lost cell in_part out)
    lost cell in_own out false before = or_left _ _ (so_far.lost cell in_own before)

-- what one of the first boxes has one of all has
any_first : (boxes : Boxes) (others cell : List ℕ) (i : ℕ) → any_has boxes (take i others) cell ≡ true → any_has boxes others cell ≡ true
any_first boxes others cell i first =
    let test : ℕ → Bool = λ number. in_box boxes.shape (box_at boxes number) cell in
    sym (ap (list_any test) (take-append-drop i others)) ∙ list_any-append test (take i others) (drop i others)
    ∙ or_left _ (list_any test (drop i others)) first

pub covered : (boxes : Boxes) (others box part left : List ℕ) (i other : ℕ) → i < length others → get_or others i 0 ≡ other
    → AreLeft boxes (take i others) box part left
    → ((cell : List ℕ) → in_box boxes.shape part cell ≡ true → in_box boxes.shape (box_at boxes other) cell ≡ true)
    → (cell : List ℕ) → in_box boxes.shape box cell ≡ true → any_has boxes others cell ≡ true
covered boxes others box part left i other low is so_far within cell in_own =
    elim (cases_Bool (in_box boxes.shape part cell)) [
      | inl in_part ↦
          let test : ℕ → Bool = λ number. in_box boxes.shape (box_at boxes number) cell in
          list_any_at test others i 0 low (ap test is ∙ within cell in_part)
      | inr out ↦ any_first boxes others cell i (so_far.lost cell in_own out)
    ]

pub left_last : (boxes : Boxes) (others box part left : List ℕ) (i : ℕ) → length others ≤ i → AreLeft boxes (take i others) box part left
    → AreLeft boxes others box part left
left_last boxes others box part left i past so_far =
    let P : List ℕ → Type 0 = λ seen. AreLeft boxes seen box part left in
    subst P (take_all i others past) so_far

-- what is left of a part is one
pub left_part : (boxes : Boxes) (box numbers seen whole words left : List ℕ) (part more : BoxPart) → AreLeft boxes seen whole words left
    → seen ≡ part.others.value.items → whole ≡ part.words.items → more.words.items ≡ words → more.others.value.items ≡ left
    → IsPartOf boxes box numbers part → IsPartOf boxes box numbers more
left_part boxes box numbers seen whole words left part more is_left seen_is whole_is words_is left_is of = record {
  whole = ap length words_is ∙ is_left.whole;
  within = λ cell in_more. of.within cell (in_part cell in_more);
  same = λ cell in_more.
      ap (λ xs. any_has boxes xs cell) left_is ∙ is_left.same cell (in_words cell in_more)
      ∙ ap (λ xs. any_has boxes xs cell) seen_is ∙ of.same cell (in_part cell in_more);
  known = let P : List ℕ → Type 0 = All (λ other. other < boxes.count) in subst P (sym left_is) is_left.known;
}
  where
    in_words : (cell : List ℕ) → in_box boxes.shape more.words.items cell ≡ true → in_box boxes.shape words cell ≡ true
    in_words cell in_more = sym (ap (λ xs. in_box boxes.shape xs cell) words_is) ∙ in_more

    in_part : (cell : List ℕ) → in_box boxes.shape more.words.items cell ≡ true → in_box boxes.shape part.words.items cell ≡ true
    in_part cell in_more = sym (ap (λ xs. in_box boxes.shape xs cell) whole_is) ∙ is_left.within cell (in_words cell in_more)
