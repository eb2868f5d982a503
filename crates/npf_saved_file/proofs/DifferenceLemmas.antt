-- The first place where two lists of names differ.
use Rattle.std.proofs.Common.{◌≡◌, ◌≢◌, ◌<◌, ◌≤◌, ◌+◌, ◌==◌, ◌&&◌, ℕ, Bool, true, false, min, Some, None, List, [], ◌∷◌, ◌++◌, length, take, get_or, refl, sym, ap, ◌∙◌, true≢false, inl, inr, arith}
use Rattle.std.{specs.{Prelude.{◌⊎◌, slice_get}, Str.bytes_eq}, proofs.lemmas.{Bool.and_parts, List.{take_all, take_more}, Map.Views.exact_unsigned_eq}}
use Rattle.std.proofs.lemmas.{Option.{slice_get_past, slice_get_read, slice_get-get_or}, Slice.Eq.bytes_eq-Decides}
use Rattle.npf_types.{specs.{declared.name.Name.Name, contracts.name.NameEq.TheImpl.Laws.laws-law}, proofs.NameLemmas.Name-same}
use Rattle.npf_types.specs.contracts.name.NamePartialEq.TheImpl as name_eq
use Rattle.npf_saved_file.specs.Refusal.{IsFirstDifference}

-- names are told apart by `==`
abbrev pub same_name : Name → Name → Bool
same_name = (name_eq.ghosts).eq

pub one_name : (one other : Name) → same_name one other ≡ true → one ≡ other
one_name one other same =
    let both = and_parts (one.len == other.len) (bytes_eq one.bytes other.bytes) same in
    Name-same one other (exact_unsigned_eq _ _ both.0) ((bytes_eq-Decides one.bytes other.bytes).0 both.1)

pub two_names : (one other : Name) → same_name one other ≡ false → one ≢ other
two_names one other differ same = true≢false (sym (laws-law.refl one) ∙ ap (same_name one) same ∙ differ)

is_there : (names : List Name) (place : ℕ) → place < length names → ¬ (slice_get names place ≡ None)
is_there [] place within none = absurd (omega (arith, within))
is_there (name ∷ names) place within none = let some = slice_get-get_or (name ∷ names) place name within in let both = sym some ∙ none in cc both

module _ (one other : List Name) (place : ℕ) where
  pub differs_here : (mine theirs : Name) → place < length one → place < length other → take place one ≡ take place other → mine ≡ get_or one place mine
      → theirs ≡ get_or other place theirs → mine ≢ theirs → IsFirstDifference one other place
  differs_here mine theirs within there same is are differ = record {
    same = same;
    differs = λ alike.
        let first = slice_get_read one (length one) place mine refl within is in
        let second = slice_get_read other (length other) place theirs refl there are in
        let both : Some mine ≡ Some theirs = sym first ∙ alike ∙ second in
        differ cc;
  }

  pub same_further : (mine theirs : Name) → place < length one → place < length other → take place one ≡ take place other → mine ≡ get_or one place mine
      → theirs ≡ get_or other place theirs → mine ≡ theirs → take (place + 1) one ≡ take (place + 1) other
  same_further mine theirs within there same is are alike =
      take_more one place mine within ∙ ap (λ n. take place one ++ n ∷ []) (sym is ∙ alike) ∙ ap (λ front. front ++ theirs ∷ []) same
      ∙ ap (λ n. take place other ++ n ∷ []) are ∙ sym (take_more other place theirs there)

  pub same_lists : length one ≤ place → length other ≤ place → take place one ≡ take place other → one ≡ other
  same_lists short also same = sym (take_all place one short) ∙ same ∙ take_all place other also

  -- one of them ends there, and the other doesn't
  pub ends_here : place ≡ min (length one) (length other) → length one ≢ length other → take place one ≡ take place other → IsFirstDifference one other place
  ends_here least differ same = record { same = same; differs = by (which (length one) (length other) least differ) } where
    which : (m n : ℕ) → place ≡ min m n → m ≢ n → ((place ≡ m) × (m < n)) ⊎ ((place ≡ n) × (n < m))
    which m n is apart = grind arith

    by : ((place ≡ length one) × (length one < length other)) ⊎ ((place ≡ length other) × (length other < length one)) → slice_get one place ≢ slice_get other place
    by (inl mine) alike =
        let none = slice_get_past one place (let at = mine.0 in omega (arith, at)) in
        is_there other place (let at = mine.0 in let more = mine.1 in omega (arith, at, more)) (sym alike ∙ none)
    by (inr theirs) alike =
        let none = slice_get_past other place (let at = theirs.0 in omega (arith, at)) in
        is_there one place (let at = theirs.0 in let more = theirs.1 in omega (arith, at, more)) (alike ∙ none)
