-- Each piece of a key is in one of the key's sets.
use Rattle.std.proofs.Common.{if◌then◌else◌, ⊎_elim, true, false, Bool, sym, subst, List, [], ◌∷◌, ◌++◌, Option, Some, None, append_assoc, append-nil, arith}
use Rattle.std.{specs.Prelude.Contains, proofs.lemmas.List.Elements.{Contains-append_cases, Contains-append_left, Contains-append_right}}
use Rattle.npf_shelf.proofs.ListLemmas.{Contains-first}
use Rattle.npf_pieces.specs.declared.arrived.{Arrived.Arrived, Ending.{Ending, TheVariants.Unfinished}}
use Rattle.npf_pieces.specs.Sets.{Set, ended_by, ending_with, is_late, sets_from, unfinished}
use Rattle.npf_reass_sets.specs.Class.{IsInSet}

pub in_left : (xs ys : List Set) (a : Arrived) → IsInSet xs a → IsInSet (xs ++ ys) a
in_left xs ys a h = record { set = h.set; among = Contains-append_left xs ys h.set h.among; has = h.has }

pub in_right : (xs ys : List Set) (a : Arrived) → IsInSet ys a → IsInSet (xs ++ ys) a
in_right xs ys a h = record { set = h.set; among = Contains-append_right xs ys h.set h.among; has = h.has }

in_first : (set : Set) (sets : List Set) (a : Arrived) → Contains set.pieces a → IsInSet (set ∷ sets) a
in_first set sets a h = record { set = set; among = Contains-first set sets; has = h }

in_unfinished : (begun : List Arrived) (a : Arrived) → Contains begun a → IsInSet (unfinished begun) a
in_unfinished [] a h = absurd (omega (arith, h.1))
in_unfinished (o ∷ begun) a h = in_first (record { pieces = o ∷ begun; ending = Unfinished }) [] a h

module _ (rest : List Arrived) (more : (begun : List Arrived) (a : Arrived) → Contains (begun ++ rest) a → IsInSet (sets_from begun rest) a) where
  in_ended : (set : List Arrived) (a : Arrived) (ending : Option Ending) → Contains (set ++ rest) a
      → IsInSet (ended_by (λ next. sets_from next rest) set ending) a
  in_ended set a None h = more set a h
  in_ended set a (Some ending) h =
      let this : Set = record { pieces = set; ending = ending } in
      ⊎_elim (λ (k : Contains set a). in_first this (sets_from [] rest) a k)
      (λ (k : Contains rest a). in_right (this ∷ []) (sets_from [] rest) a (more [] a k))
      (Contains-append_cases set rest a h)

  by_time : (begun : List Arrived) (o a : Arrived) (late : Bool) → Contains (begun ++ o ∷ rest) a
      → IsInSet (if late then unfinished begun ++ ended_by (λ next. sets_from next rest) (o ∷ []) (ending_with [] o)
      else ended_by (λ next. sets_from next rest) (begun ++ o ∷ []) (ending_with begun o)) a
  by_time begun o a true h =
      let behind = ended_by (λ next. sets_from next rest) (o ∷ []) (ending_with [] o) in
      ⊎_elim (λ (k : Contains begun a). in_left (unfinished begun) behind a (in_unfinished begun a k))
      (λ (k : Contains (o ∷ rest) a). in_right (unfinished begun) behind a (in_ended (o ∷ []) a (ending_with [] o) k))
      (Contains-append_cases begun (o ∷ rest) a h)
  by_time begun o a false h =
      in_ended (begun ++ o ∷ []) a (ending_with begun o) (subst (λ (xs : List Arrived). Contains xs a) (sym (append_assoc begun (o ∷ []) rest)) h)

pub all_in_sets : (rest begun : List Arrived) (a : Arrived) → Contains (begun ++ rest) a → IsInSet (sets_from begun rest) a
all_in_sets [] begun a h = in_unfinished begun a (subst (λ (xs : List Arrived). Contains xs a) (append-nil begun) h)
all_in_sets (o ∷ rest) begun a h = by_time rest (λ next b k. all_in_sets rest next b k) begun o a (is_late begun o) h
