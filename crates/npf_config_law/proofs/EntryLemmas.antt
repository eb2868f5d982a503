-- Lists of entries that are the same: those that are read of one text, and what a change makes of them.
use Rattle.std.proofs.Common.{◌≡◌, ◌≢◌, ◌+◌, ◌↔◌, ℕ, Bool, true, false, inl, inr, List, [], ◌∷◌, ◌++◌, length, take, drop, refl, sym, subst, arith, Contains}
use Rattle.std.{specs.{Prelude.{◌⊎◌, zero, suc}, List.{AllPairs, AllZip, sum_by}}, proofs.lemmas.List.Sums.sum_by-cons}
use Rattle.npf_types.{specs.declared.prefix.Prefix.Prefix, proofs.PrefixLemmas.{same_prefix, same_prefix_laws, same_prefix_tells}}
use Rattle.npf_model.specs.{declared.table.Kind.Kind, Describes.Tables}
use Rattle.npf_lpm.specs.Lpm.{Gains, Loses}
use Rattle.npf_table.specs.TableFile.{AreEntries}
use Rattle.npf_ruleset.proofs.PairLemmas.{zip_append}
use Rattle.npf_config_law.{specs.Entries.AreSameEntries, proofs.CountLemmas.no_more}

-- two prefixes are one or they aren't
pub prefix_cases : (p q : Prefix) → (p ≡ q) ⊎ (p ≢ q)
prefix_cases p q = by (same_prefix p q) refl
  where
    by : (test : Bool) → same_prefix p q ≡ test → (p ≡ q) ⊎ (p ≢ q)
    by true is = inl (same_prefix_tells p q is)
    by false is = inr (λ same.
        let alike : same_prefix p q ≡ true = subst (λ (x : Prefix). same_prefix p x ≡ true) same (same_prefix_laws.refl p) in
        cc)

-- lists of entries that stand apart, of which each has those of the other
pub same_of : (ps qs : List Prefix) → AllPairs (λ p q. p ≢ q) ps → AllPairs (λ p q. p ≢ q) qs → ((p : Prefix) → Contains ps p ↔ Contains qs p) → AreSameEntries ps qs
same_of ps qs apart once same =
    let few = no_more ps qs apart (λ p. (same p).0) in
    let least = no_more qs ps once (λ p. (same p).1) in
    record { same = same; count = omega (arith, few, least) }

-- what is read of one text
pub same_read : (kind : Kind) (all : List (List ℕ)) (ps qs : List Prefix) → AreEntries kind all ps → AreEntries kind all qs
    → AllPairs (λ p q. p ≢ q) ps → AllPairs (λ p q. p ≢ q) qs → AreSameEntries ps qs
same_read kind all ps qs one other apart once =
    same_of ps qs apart once (λ p. (λ there. (other.written p).1 ((one.written p).0 there), λ there. (one.written p).1 ((other.written p).0 there)))

module _ (ps qs : List Prefix) (same : AreSameEntries ps qs) (prefix : Prefix) where
  -- what is gained is the same
  pub same_gained : (more also : List Prefix) → Gains ps more prefix → Gains qs also prefix → length more ≡ length ps + 1 → length also ≡ length qs + 1 → AreSameEntries more also
  same_gained more also one other count counted = record { same = λ p. by p (prefix_cases p prefix); count = (let as_many = same.count in omega (arith, as_many, count, counted)) }
    where
      by : (p : Prefix) → (p ≡ prefix) ⊎ (p ≢ prefix) → Contains more p ↔ Contains also p
      by p (inl is) = (λ _. subst (Contains also) (sym is) other.there, λ _. subst (Contains more) (sym is) one.there)
      by p (inr not) = (
        λ there. (other.others p not).1 ((same.same p).0 ((one.others p not).0 there)),
        λ there. (one.others p not).1 ((same.same p).1 ((other.others p not).0 there)),
      )

  -- and so is what is left
  pub same_lost : (more also : List Prefix) → Loses ps more prefix → Loses qs also prefix → length more + 1 ≡ length ps → length also + 1 ≡ length qs → AreSameEntries more also
  same_lost more also one other count counted = record { same = λ p. by p (prefix_cases p prefix); count = (let as_many = same.count in omega (arith, as_many, count, counted)) }
    where
      by : (p : Prefix) → (p ≡ prefix) ⊎ (p ≢ prefix) → Contains more p ↔ Contains also p
      by p (inl is) = (λ there. absurd (one.gone (subst (Contains more) is there)), λ there. absurd (other.gone (subst (Contains also) is there)))
      by p (inr not) = (
        λ there. (other.others p not).1 ((same.same p).0 ((one.others p not).0 there)),
        λ there. (one.others p not).1 ((same.same p).1 ((other.others p not).0 there)),
      )

-- such tables have as many entries together
pub same_count : (tables others : Tables) → AllZip AreSameEntries tables others → sum_by length tables ≡ sum_by length others
same_count [] [] same = refl
same_count (ps ∷ tables) (qs ∷ others) same =
    let here = same.0.count in
    omega (arith, here, same_count tables others same.1, sum_by-cons length ps tables, sum_by-cons length qs others)
same_count [] (qs ∷ others) same = absurd same
same_count (ps ∷ tables) [] same = absurd same

-- the first ones and the last ones of them are the same
same_taken : (n : ℕ) (tables others : Tables) → AllZip AreSameEntries tables others → AllZip AreSameEntries (take n tables) (take n others)
same_taken zero tables others same = tt
same_taken (suc n) [] [] same = tt
same_taken (suc n) (ps ∷ tables) (qs ∷ others) same = (same.0, same_taken n tables others same.1)
same_taken (suc n) [] (qs ∷ others) same = absurd same
same_taken (suc n) (ps ∷ tables) [] same = absurd same

same_dropped : (n : ℕ) (tables others : Tables) → AllZip AreSameEntries tables others → AllZip AreSameEntries (drop n tables) (drop n others)
same_dropped zero tables others same = same
same_dropped (suc n) [] [] same = tt
same_dropped (suc n) (ps ∷ tables) (qs ∷ others) same = same_dropped n tables others same.1
same_dropped (suc n) [] (qs ∷ others) same = absurd same
same_dropped (suc n) (ps ∷ tables) [] same = absurd same

-- the table at a place is changed in both
pub same_at : (i : ℕ) (tables others : Tables) (ps qs : List Prefix) → AllZip AreSameEntries tables others → AreSameEntries ps qs
    → AllZip AreSameEntries (take i tables ++ ps ∷ drop (i + 1) tables) (take i others ++ qs ∷ drop (i + 1) others)
same_at i tables others ps qs same here =
    zip_append AreSameEntries (take i tables) (ps ∷ drop (i + 1) tables) (take i others) (qs ∷ drop (i + 1) others) (same_taken i tables others same)
    (here, same_dropped (i + 1) tables others same)
