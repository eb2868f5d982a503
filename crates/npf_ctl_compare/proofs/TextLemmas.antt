-- The lines of all differences, and how many they are.
use Rattle.std.proofs.Common.{◌≡◌, ◌+◌, ◌++◌, ◌∙◌, ℕ, Bool, true, false, List, [], length, map, refl, sym, ap, arith, append_assoc, length-append}
use Rattle.std.proofs.lemmas.Grind.{flat_map-append}
use Rattle.std.proofs.lemmas.List.{length-map}
use Rattle.std.proofs.lemmas.List.Folds.{flat_map-map}
use Rattle.std.specs.List.{flat_map}
use Rattle.std.specs.Bool.{if◌then◌else◌}
use Rattle.npf_model.specs.declared.{iface.Iface.Iface, model.Model.Model}
use Rattle.npf_ctl_compare.specs.declared.differences.Differences.{Differences}
use Rattle.npf_ctl_compare.specs.{CompareText.{alg_lines, difference_lines, map_difference_line, parameter_line, rule_difference_line}, Differences.line_count}

-- lists of lines, one behind the other
joined : {A B C : Type 0} (f : A → List ℕ) (g : B → List ℕ) (h : C → List ℕ) (xs : List A) (ys : List B) (zs : List C) (rest : List (List ℕ))
    → flat_map (λ line. line) (map f xs ++ (map g ys ++ (map h zs ++ rest))) ≡ flat_map f xs ++ (flat_map g ys ++ (flat_map h zs ++ flat_map (λ line. line) rest))
joined f g h xs ys zs rest = simp (flat_map-append, flat_map-map)

counted : {A B C : Type 0} (f : A → List ℕ) (g : B → List ℕ) (h : C → List ℕ) (xs : List A) (ys : List B) (zs : List C) (rest : List (List ℕ))
    → length (map f xs ++ (map g ys ++ (map h zs ++ rest))) ≡ length xs + length ys + length zs + length rest
counted f g h xs ys zs rest = simp (length-append, length-map) (omega arith)

module _ (old new : Model) (ifaces : List Iface) (differences : Differences) where
  pub lines_joined : flat_map (λ line. line) (difference_lines old new ifaces differences)
      ≡ flat_map (rule_difference_line old new ifaces) differences.rules.items
      ++ (flat_map (map_difference_line ifaces) differences.maps.items
      ++ (flat_map (parameter_line old new) differences.parameters.items
      ++ flat_map (λ line. line) (alg_lines old new differences.alg_icmp)))
  lines_joined =
      joined (rule_difference_line old new ifaces) (map_difference_line ifaces) (parameter_line old new)
      differences.rules.items differences.maps.items differences.parameters.items (alg_lines old new differences.alg_icmp)

  pub lines_counted : length (difference_lines old new ifaces differences) ≡ line_count differences
  lines_counted =
      counted (rule_difference_line old new ifaces) (map_difference_line ifaces) (parameter_line old new)
      differences.rules.items differences.maps.items differences.parameters.items (alg_lines old new differences.alg_icmp)
      ∙ ap (λ n. length differences.rules.items + length differences.maps.items + length differences.parameters.items + n) (one differences.alg_icmp)
    where
      one : (b : Bool) → length (alg_lines old new b) ≡ (if b then 1 else 0)
      one true = refl
      one false = refl

-- pieces that were put one behind the other
pub together : (rules maps parameters alg count : List ℕ) {lines start one two three four five : List ℕ} → lines ≡ rules ++ (maps ++ (parameters ++ alg)) → start ≡ []
    → one ≡ start ++ rules → two ≡ one ++ maps → three ≡ two ++ parameters → four ≡ three ++ alg → five ≡ four ++ count → five ≡ lines ++ count
together rules maps parameters alg count are a b c d e f =
    f
    ∙ ap (λ t. t ++ count)
    (e ∙ ap (λ t. t ++ alg) (d ∙ ap (λ t. t ++ parameters) (c ∙ ap (λ t. t ++ maps) (b ∙ ap (λ t. t ++ rules) a)))
    ∙ regrouped ∙ sym are)
  where
    regrouped : ((rules ++ maps) ++ parameters) ++ alg ≡ rules ++ (maps ++ (parameters ++ alg))
    regrouped = simp append_assoc
