-- The entries of a file's lines, line by line.
use Rattle.std.proofs.Common.{◌↔◌, ◌≡◌, ◌≢◌, ◌<◌, ◌+◌, ℕ, List, Contains, length, take, get_or, ◌++◌, ◌∷◌, [], refl, sym, ap, subst, ◌∙◌, ◌⊎◌, ⊎_elim, inl, inr, true≢false, arith, add-one}
use Rattle.std.proofs.lemmas.{List.{get_or-take, length-take-le}, Option.{slice_get_read, get_or_from_slice_get}}
use Rattle.std.proofs.{lemmas.{List.Elements.{Contains-push, Contains-append_left, Contains-push_cases}, Bool.cases_Bool}, Math.Seq.take-suc}
use Rattle.npf_model.specs.declared.table.Kind.{Kind}
use Rattle.npf_types.{specs.{declared.prefix.Prefix.Prefix, Reading.IsOnly}, proofs.PrefixLemmas.{same_prefix, same_prefix_laws, same_prefix_tells}}
use Rattle.npf_lpm.specs.Lpm.{Gains}
use Rattle.npf_table.specs.{Line.{IsBlankLine, IsEntry, IsBad}, TableFile.{Writes, AreEntries, IsFirstBadLine}}

-- no line, no entry
pub no_lines : (kind : Kind) → AreEntries kind [] []
no_lines kind = record {
  written = λ p. (λ (k, lt, is). absurd (omega (arith, lt)), λ w. let among = w.among in absurd (omega (arith, among.1)));
  none_bad = λ line (k, lt, is). absurd (omega (arith, lt));
}

writes_more : (kind : Kind) (done : List (List ℕ)) (line : List ℕ) (p : Prefix) → Writes kind done p → Writes kind (done ++ line ∷ []) p
writes_more kind done line p w = record { line = w.line; among = Contains-append_left done (line ∷ []) w.line w.among; entry = w.entry }

writes_cases : (kind : Kind) (done : List (List ℕ)) (line : List ℕ) (p : Prefix) → Writes kind (done ++ line ∷ []) p → Writes kind done p ⊎ IsEntry kind line p
writes_cases kind done line p w = ⊎_elim
    (λ (old : Contains done w.line). inl (record { line = w.line; among = old; entry = w.entry }))
    (λ (new : line ≡ w.line). inr (subst (λ (l : List ℕ). IsEntry kind l p) (sym new) w.entry))
    (Contains-push_cases done line w.line w.among)

good_more : (kind : Kind) (done : List (List ℕ)) (line : List ℕ) → ((l : List ℕ) → Contains done l → ¬ IsBad kind l) → ¬ IsBad kind line
    → (l : List ℕ) → Contains (done ++ line ∷ []) l → ¬ IsBad kind l
good_more kind done line good this l there bad = ⊎_elim
    (λ (old : Contains done l). good l old bad)
    (λ (new : line ≡ l). this (subst (λ (m : List ℕ). IsBad kind m) (sym new) bad))
    (Contains-push_cases done line l there)

-- a blank line adds nothing
pub after_blank : (kind : Kind) (done : List (List ℕ)) (line : List ℕ) (ps : List Prefix) → AreEntries kind done ps
    → IsBlankLine line → ((p : Prefix) → ¬ IsEntry kind line p) → AreEntries kind (done ++ line ∷ []) ps
after_blank kind done line ps h blank none = record {
  written = λ p. (
    λ there. writes_more kind done line p ((h.written p).0 there),
    λ w. ⊎_elim (λ (old : Writes kind done p). (h.written p).1 old) (λ (new : IsEntry kind line p). absurd (none p new)) (writes_cases kind done line p w),
  );
  none_bad = good_more kind done line h.none_bad (λ bad. bad.not_blank blank);
}

-- an entry adds its prefix
pub after_entry : (kind : Kind) (done : List (List ℕ)) (line : List ℕ) (entry : Prefix) (old new : List Prefix) → AreEntries kind done old
    → IsOnly (IsEntry kind) line entry → Gains old new entry → AreEntries kind (done ++ line ∷ []) new
after_entry kind done line entry old new h only gains = record {
  written = λ p. ⊎_elim
      (λ same.
      let is : entry ≡ p = same_prefix_tells entry p same in (
        λ _. record { line = line; among = Contains-push done line; entry = subst (λ (q : Prefix). IsEntry kind line q) is only.reads },
        λ _. subst (λ (q : Prefix). Contains new q) is gains.there,
      ))
      (λ other.
      let apart : p ≢ entry = λ is. true≢false (sym (ap (same_prefix entry) is ∙ same_prefix_laws.refl entry) ∙ other) in (
        λ there. writes_more kind done line p ((h.written p).0 ((gains.others p apart).0 there)),
        λ w. (gains.others p apart).1 (⊎_elim
            (λ (was : Writes kind done p). (h.written p).1 was)
            (λ (now : IsEntry kind line p). absurd (apart (only.only p now)))
            (writes_cases kind done line p w)),
      ))
      (cases_Bool (same_prefix entry p));
  none_bad = good_more kind done line h.none_bad (λ bad. bad.no_entry entry only.reads);
}

-- a prefix put behind others joins them
pub pushed_gains : (ps new : List Prefix) (p : Prefix) → new ≡ ps ++ p ∷ [] → Gains ps new p
pushed_gains ps new p is = subst (λ (l : List Prefix). Gains ps l p) (sym is) (record {
  there = Contains-push ps p;
  others = λ other apart. (
    λ h. ⊎_elim (λ (old : Contains ps other). old) (λ (now : p ≡ other). absurd (apart (sym now))) (Contains-push_cases ps p other h),
    λ h. Contains-append_left ps (p ∷ []) other h,
  );
})

-- the lines write what a list of the same prefixes has
pub same_entries : (kind : Kind) (all : List (List ℕ)) (ps same : List Prefix) → AreEntries kind all ps → ((p : Prefix) → Contains same p ↔ Contains ps p)
    → AreEntries kind all same
same_entries kind all ps same h eq = record {
  written = λ p. (λ there. (h.written p).0 ((eq p).0 there), λ w. (eq p).1 ((h.written p).1 w));
  none_bad = h.none_bad;
}

-- a bad line behind good ones is the first
pub first_bad : (kind : Kind) (all : List (List ℕ)) (n : ℕ) (line : List ℕ) (ps : List Prefix) (number : ℕ) → AreEntries kind (take n all) ps → n < length all
    → line ≡ get_or all n line → IsBad kind line → number ≡ n + 1 → IsFirstBadLine kind all number
first_bad kind all n line ps number h within is bad counted = record {
  before = n;
  counted = counted;
  line = line;
  there = slice_get_read all (length all) n line refl within is;
  bad = bad;
  first = λ k lt earlier at. h.none_bad earlier (
    k,
    omega (arith, length-take-le n all (omega arith)),
    get_or-take n all k earlier lt ∙ get_or_from_slice_get all k earlier earlier at,
  );
}

-- the lines up to one more
pub one_line_more : (all : List (List ℕ)) (n m : ℕ) (line : List ℕ) → n < length all → line ≡ get_or all n line → m ≡ n + 1
    → take m all ≡ take n all ++ line ∷ []
one_line_more all n m line within is more =
    ap (λ k. take k all) (more ∙ add-one n) ∙ take-suc all n line within ∙ ap (λ l. take n all ++ l ∷ []) (sym is)
