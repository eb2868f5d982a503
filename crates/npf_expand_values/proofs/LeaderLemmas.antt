-- The first of values and the interface that all of them have, where they stand behind others.
use Rattle.std.proofs.Common.{◌≡◌, ℕ, Bool, true, false, ◌&&◌, if◌then◌else◌, Option, Some, None, List, [], ◌∷◌, ◌++◌, refl, sym, ap, ◌∙◌}
use Rattle.std.specs.{List.list_all, Option.{option_map, option_or}, Str.bytes_eq}
use Rattle.std.proofs.lemmas.{List.Folds.list_all-append, Slice.Eq.bytes_eq-Decides}
use Rattle.npf_expand_values.specs.declared.{atom.Atom.Atom as Kept, leader.Leader.Leader}
use Rattle.npf_expand_values.specs.Atom.{Atom, kept_atom}
use Rattle.npf_expand_values.specs.Leader.{are_alike, has_name, is_alike, is_same_name, joined_leader, name_text}
use Rattle.npf_expand_values.{specs.Kept.first_atom, proofs.MessageLemmas.and_true}

first_atom-append : (xs ys : List Atom) → first_atom (xs ++ ys) ≡ option_or (first_atom xs) (first_atom ys)
first_atom-append [] ys = refl
first_atom-append (x ∷ xs) ys = refl

option_map-or : {X Y : Type 0} (f : X → Y) (a b : Option X) → option_map f (option_or a b) ≡ option_or (option_map f a) (option_map f b)
option_map-or f None b = refl
option_map-or f (Some a) b = refl

pub joined_first : (a b : Leader) (xs ys : List Atom) → option_map kept_atom a.first ≡ first_atom xs → option_map kept_atom b.first ≡ first_atom ys
    → option_map kept_atom (joined_leader a b).first ≡ first_atom (xs ++ ys)
joined_first a b xs ys one other =
    option_map-or kept_atom a.first b.first ∙ ap (λ f. option_or f (option_map kept_atom b.first)) one ∙ ap (option_or (first_atom xs)) other
    ∙ sym (first_atom-append xs ys)

-- who has a name has what all have that have it
same_named : (name other : Option (List ℕ)) → is_same_name name other ≡ true → name ≡ other
same_named (Some one) (Some other) is = ap Some ((bytes_eq-Decides one other).0 is)
same_named None other is = cc
same_named (Some one) None is = cc

and_false : (a : Bool) → (a && false) ≡ false
and_false true = refl
and_false false = refl

-- all of two lists have the first's interface: of the other list the first has it, and the rest has what that has
all_alike : (name : Option (List ℕ)) (front : Bool) (y : Atom) (ys : List Atom) (same : Bool) → is_same_name name (name_text y) ≡ same
    → (front && (same && list_all (has_name name) ys)) ≡ (front && (is_alike (y ∷ ys) && same))
all_alike name front y ys true is = ap (λ n. front && list_all (has_name n) ys) (same_named name (name_text y) is) ∙ ap (λ b. front && b) (sym (and_true (is_alike (y ∷ ys))))
all_alike name front y ys false is = ap (λ b. front && b) (sym (and_false (is_alike (y ∷ ys))))

is_alike-append : (xs ys : List Atom) → is_alike (xs ++ ys) ≡ (is_alike xs && (is_alike ys && are_alike (first_atom xs) (first_atom ys)))
is_alike-append [] ys = by ys where
  by : (zs : List Atom) → is_alike zs ≡ (is_alike zs && are_alike None (first_atom zs))
  by [] = refl
  by (z ∷ zs) = sym (and_true (is_alike (z ∷ zs)))
is_alike-append (x ∷ xs) [] = list_all-append (has_name (name_text x)) xs []
is_alike-append (x ∷ xs) (y ∷ ys) = list_all-append (has_name (name_text x)) xs (y ∷ ys)
    ∙ all_alike (name_text x) (list_all (has_name (name_text x)) xs) y ys (is_same_name (name_text x) (name_text y)) refl

pub joined_alike : (a b : Leader) (xs ys : List Atom) → option_map kept_atom a.first ≡ first_atom xs → option_map kept_atom b.first ≡ first_atom ys
    → a.alike ≡ is_alike xs → b.alike ≡ is_alike ys → (joined_leader a b).alike ≡ is_alike (xs ++ ys)
joined_alike a b xs ys one other is are =
    ap (λ f. a.alike && (b.alike && are_alike f (option_map kept_atom b.first))) one ∙ ap (λ f. a.alike && (b.alike && are_alike (first_atom xs) f)) other
    ∙ ap (λ f. f && (b.alike && are_alike (first_atom xs) (first_atom ys))) is ∙ ap (λ f. is_alike xs && (f && are_alike (first_atom xs) (first_atom ys))) are
    ∙ sym (is_alike-append xs ys)
