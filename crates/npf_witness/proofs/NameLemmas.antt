-- Names that are taken one after the other, and letters.
use Rattle.std.proofs.Common.{◌≡◌, ℕ, suc, ◌+◌, ◌<◌, ◌++◌, Bool, true, false, List, if◌then◌else◌, length, take, get_or, refl, sym, ap, ◌∙◌}
use Rattle.std.{specs.List.flat_map, proofs.lemmas.{Bool.{false≢true, true≢false}, List.{flat_map_more, take_more}}}
use Rattle.npf_model.specs.declared.iface.Iface.{Iface}
use Rattle.npf_witness.specs.WitnessText.{cap_text, free_from, is_some_name}

yes_chosen : (b : Bool) (x y : List ℕ) → b ≡ true → (if b then x else y) ≡ x
yes_chosen true x y e = refl
yes_chosen false x y e = absurd (false≢true e)

no_chosen : (b : Bool) (x y : List ℕ) → b ≡ false → (if b then x else y) ≡ y
no_chosen true x y e = absurd (true≢false e)
no_chosen false x y e = refl

module _ (ifaces : List Iface) (number others left : ℕ) (text : List ℕ) (is : text ≡ cap_text number) (more : left ≡ suc others) where
  -- a name that is taken is passed over, and another one is the first
  pub passed_over : (taken : Bool) → taken ≡ is_some_name text ifaces → taken ≡ true → free_from ifaces number left ≡ free_from ifaces (number + 1) others
  passed_over taken told e =
      ap (free_from ifaces number) more
      ∙ yes_chosen (is_some_name (cap_text number) ifaces) (free_from ifaces (number + 1) others) (cap_text number)
      (ap (λ name. is_some_name name ifaces) (sym is) ∙ sym told ∙ e)

  pub first_free : (taken : Bool) → taken ≡ is_some_name text ifaces → taken ≡ false → free_from ifaces number left ≡ text
  first_free taken told e =
      ap (free_from ifaces number) more
      ∙ no_chosen (is_some_name (cap_text number) ifaces) (free_from ifaces (number + 1) others) (cap_text number)
      (ap (λ name. is_some_name name ifaces) (sym is) ∙ sym told ∙ e)
      ∙ sym is

-- one element more of a list
pub one_more : {X : Type 0} {now new : List ℕ} (old : List ℕ) (f : X → List ℕ) (all : List X) (i : ℕ) (d : X) → i < length all
    → now ≡ old ++ flat_map f (take i all) → new ≡ now ++ f (get_or all i d) → new ≡ old ++ flat_map f (take (i + 1) all)
one_more old f all i d within is more =
    more ∙ ap (λ text. text ++ f (get_or all i d)) is ∙ flat_map_more f old (take i all) (get_or all i d)
    ∙ ap (λ taken. old ++ flat_map f taken) (sym (take_more all i d within))
