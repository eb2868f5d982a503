-- The prefixes of the two tables.
use Rattle.std.proofs.Common.{◌≡◌, ◌≢◌, ◌↔◌, ◌+◌, ◌-◌, ◌<◌, ◌++◌, ◌∷◌, [], suc, zero, cond, ℕ, Bool, true, false, List, Contains, map, length}
use Rattle.std.proofs.{Common.{get_or, refl, sym, ap, ◌∙◌, arith, subst, ⊎_elim, true≢false, length-append}, lemmas.Bool.cases_Bool}
use Rattle.std.proofs.lemmas.List.{get_or-map, length-map}
use Rattle.std.proofs.lemmas.List.Elements.{All-append, All-contains, All-filter, All-contains_itself, All-map, All-weaker, Contains-append_left}
use Rattle.std.proofs.lemmas.List.{Elements.{Contains-append_right, Contains-append_cases, Contains-get_or, filter_passes}, Kept.AllPairs-cons}
use Rattle.std.proofs.lemmas.List.{get_or_append_left, get_or-append_right}
use Rattle.std.proofs.lemmas.List.Edits.{insert-append_left, insert-append_right, remove-append_left, remove-append_right}
use Rattle.std.specs.{List.{All, AllPairs, filter, insert, remove}, Prelude.{Result, Ok, Err}}
use Rattle.npf_types.specs.{declared.{address.Addr.Addr, prefix.Prefix.Prefix}, Prefix.Covers}
use Rattle.npf_lpm.specs.{declared.aligned.Aligned.Aligned, Agree.{AgreesIn, HasNumber, IsAligned}, Blocks.{Inserts, Removes}}
use Rattle.npf_lpm.specs.Families.{AreFamilies, aligned_block, both, is_narrow, number, prefix_of}
use Rattle.npf_lpm.proofs.ChangeLemmas.{All-inserts, All-members, All-removes, map-insert, map-remove}
use Rattle.npf_lpm.proofs.FamilyLemmas.{aligned_is, number_shares, prefix_again, shares_number}

-- the table of one family
abbrev pub part : Bool → List Aligned → List Aligned → List Aligned
part true v4 v6 = v4
part false v4 v6 = v6

abbrev pub IsOf : Bool → Aligned → Type 0
IsOf f b = aligned_block (prefix_of f b) ≡ b

narrow_of : (f : Bool) (b : Aligned) → is_narrow (prefix_of f b).addr ≡ f
narrow_of true b = refl
narrow_of false b = refl

pub again_of : (f : Bool) (p : Prefix) → is_narrow p.addr ≡ f → prefix_of f (aligned_block p) ≡ p
again_of f p is = subst (λ (g : Bool). prefix_of g (aligned_block p) ≡ p) is (prefix_again p)

-- a family's prefixes have one exactly where its table has its block
in_map : (f : Bool) (bs : List Aligned) → All (IsOf f) bs → (p : Prefix) → is_narrow p.addr ≡ f → Contains (map (prefix_of f) bs) p ↔ Contains bs (aligned_block p)
in_map f bs all p is =
    let b = aligned_block p in (
      λ (k, lt, at).
          let within : k < length bs = omega (arith, length-map bs (prefix_of f)) in
          (k, within, sym (all k b within) ∙ ap aligned_block (sym (get_or-map (prefix_of f) bs k b p within) ∙ at)),
      λ (k, lt, at). (k, omega (arith, length-map bs (prefix_of f)), get_or-map (prefix_of f) bs k b p lt ∙ ap (prefix_of f) at ∙ again_of f p is),
    )

not_in_map : (f : Bool) (bs : List Aligned) (p : Prefix) → is_narrow p.addr ≢ f → ¬ Contains (map (prefix_of f) bs) p
not_in_map f bs p other (k, lt, at) =
    let within : k < length bs = omega (arith, length-map bs (prefix_of f)) in
    let same = sym (get_or-map (prefix_of f) bs k (aligned_block p) p within) ∙ at in
    other (ap (λ (q : Prefix). is_narrow q.addr) (sym same) ∙ narrow_of f (get_or bs k (aligned_block p)))

module _ (v4 v6 : List Aligned) (h : AreFamilies v4 v6) where
  in_part : (f : Bool) (p : Prefix) → is_narrow p.addr ≡ f → Contains (both v4 v6) p ↔ Contains (part f v4 v6) (aligned_block p)
  in_part true p is = (
    λ there. ⊎_elim (in_map true v4 h.narrow p is).0 (λ right. absurd (not_in_map false v6 p (λ e. true≢false (sym is ∙ e)) right))
        (Contains-append_cases (map (prefix_of true) v4) (map (prefix_of false) v6) p there),
    λ there. Contains-append_left (map (prefix_of true) v4) (map (prefix_of false) v6) p ((in_map true v4 h.narrow p is).1 there),
  )
  in_part false p is = (
    λ there. ⊎_elim (λ left. absurd (not_in_map true v4 p (λ e. true≢false (sym e ∙ is)) left)) (in_map false v6 h.wide p is).0
        (Contains-append_cases (map (prefix_of true) v4) (map (prefix_of false) v6) p there),
    λ there. Contains-append_right (map (prefix_of true) v4) (map (prefix_of false) v6) p ((in_map false v6 h.wide p is).1 there),
  )

  of_part : (f : Bool) → All (IsOf f) (part f v4 v6)
  of_part true = h.narrow
  of_part false = h.wide

  -- the prefixes have an address exactly where its family's table has its number
  pub covers_in : (f : Bool) (a : Addr) → is_narrow a ≡ f → HasNumber (part f v4 v6) (number a) ↔ Covers (both v4 v6) a
  covers_in f a is = (
    λ n.
        let p = prefix_of f n.block in
        let same : aligned_block p ≡ n.block = All-contains (IsOf f) (part f v4 v6) n.block (of_part f) n.among in
        record {
          prefix = p;
          listed = (in_part f p (narrow_of f n.block)).1 (subst (λ (b : Aligned). Contains (part f v4 v6) b) (sym same) n.among);
          has = number_shares p.len p.addr a p.short (narrow_of f n.block ∙ sym is) (subst (λ (b : Aligned). AgreesIn b.len b.first (number a)) (sym same) n.has);
        },
    λ c.
        let s = shares_number c.prefix.len c.prefix.addr a c.prefix.short c.has in
        record { block = aligned_block c.prefix; among = (in_part f c.prefix (s.0 ∙ is)).0 c.listed; has = s.1 },
  )

pub both-length : (v4 v6 : List Aligned) → length (both v4 v6) ≡ length v4 + length v6
both-length v4 v6 = length-append (map (prefix_of true) v4) (map (prefix_of false) v6) ∙ (λ i. length-map v4 (prefix_of true) i + length-map v6 (prefix_of false) i)

-- no prefix is there twice where no block is
map_once : (f : Bool) (bs : List Aligned) → All (IsOf f) bs → AllPairs (λ p q. p ≢ q) bs → AllPairs (λ p q. p ≢ q) (map (prefix_of f) bs)
map_once f bs all once i j d lt within same =
    let e = aligned_block d in
    let inside : j < length bs = omega (arith, length-map bs (prefix_of f)) in
    let at : (k : ℕ) → k < length bs → aligned_block (get_or (map (prefix_of f) bs) k d) ≡ get_or bs k e = λ k less. ap aligned_block (get_or-map (prefix_of f) bs k e d less) ∙ all k e less in
    once i j e lt inside (sym (at i (omega arith)) ∙ ap aligned_block same ∙ at j inside)

append_once : (xs ys : List Prefix) → AllPairs (λ p q. p ≢ q) xs → AllPairs (λ p q. p ≢ q) ys → ((p : Prefix) → Contains xs p → ¬ Contains ys p) → AllPairs (λ p q. p ≢ q) (xs ++ ys)
append_once [] ys left right apart = right
append_once (x ∷ xs) ys left right apart = AllPairs-cons (λ p q. p ≢ q) x (xs ++ ys)
    (All-append (λ q. x ≢ q) xs ys
    (λ k d lt. left 0 (suc k) d (omega arith) (omega arith))
    (λ k d lt same. apart x (0, omega arith, refl) (subst (λ (y : Prefix). Contains ys y) (sym same) (Contains-get_or ys k d lt))))
    (append_once xs ys (λ i j d lt within. left (suc i) (suc j) d (omega arith) (omega arith)) right
    (λ p (k, lt, at). apart p (suc k, omega arith, at)))

pub both_once : (v4 v6 : List Aligned) → AreFamilies v4 v6 → AllPairs (λ p q. p ≢ q) v4 → AllPairs (λ p q. p ≢ q) v6 → AllPairs (λ p q. p ≢ q) (both v4 v6)
both_once v4 v6 h once4 once6 = append_once (map (prefix_of true) v4) (map (prefix_of false) v6) (map_once true v4 h.narrow once4) (map_once false v6 h.wide once6)
    (λ p left. ⊎_elim
    (λ (is : is_narrow p.addr ≡ true). not_in_map false v6 p (λ e. true≢false (sym is ∙ e)))
    (λ (is : is_narrow p.addr ≡ false). absurd (not_in_map true v4 p (λ e. true≢false (sym e ∙ is)) left))
    (cases_Bool (is_narrow p.addr)))

-- the blocks of one family among prefixes
module _ (f : Bool) (test : Prefix → Bool) (only : (p : Prefix) → test p ≡ true → is_narrow p.addr ≡ f) where
  pub parted_of : (ps : List Prefix) → All (IsOf f) (map aligned_block (filter test ps))
  parted_of ps = All-map (IsOf f) aligned_block (filter test ps) (All-weaker (λ p. test p ≡ true) _ (λ p pass. ap aligned_block (again_of f p (only p pass))) (filter test ps) (filter_passes test ps))

  contains_filter : (ps : List Prefix) (q : Prefix) → test q ≡ true → Contains ps q → Contains (filter test ps) q
  contains_filter [] q pass (k, lt, at) = absurd (omega arith)
  contains_filter (p ∷ ps) q pass (zero, lt, at) = subst (λ (t : Bool). Contains (cond t (p ∷ filter test ps) (filter test ps)) q) (sym (ap test at ∙ pass)) (front (filter test ps)) where
    front : (rest : List Prefix) → Contains (p ∷ rest) q
    front rest = (0, omega arith, at)
  contains_filter (p ∷ ps) q pass (suc k, lt, at) = later (test p) (contains_filter ps q pass (k, omega arith, at)) where
    later : (t : Bool) → Contains (filter test ps) q → Contains (cond t (p ∷ filter test ps) (filter test ps)) q
    later true (n, less, is) = (suc n, omega arith, is)
    later false there = there

  -- the table of the blocks has a prefix's block exactly where the prefixes have it
  pub in_parted : (ps : List Prefix) (q : Prefix) → test q ≡ true → Contains (map aligned_block (filter test ps)) (aligned_block q) ↔ Contains ps q
  in_parted ps q pass = (
    λ (k, lt, at).
        let within : k < length (filter test ps) = omega (arith, length-map (filter test ps) aligned_block) in
        let p = get_or (filter test ps) k q in
        let same : aligned_block p ≡ aligned_block q = sym (get_or-map aligned_block (filter test ps) k q (aligned_block q) within) ∙ at in
        let mine : p ≡ q = sym (again_of f p (only p (filter_passes test ps k q within))) ∙ ap (prefix_of f) same ∙ again_of f q (only q pass) in
        All-contains (Contains ps) (filter test ps) q (All-filter test (Contains ps) ps (All-contains_itself ps)) (k, within, mine),
    λ there.
        let (k, lt, at) = contains_filter ps q pass there in
        (k, omega (arith, length-map (filter test ps) aligned_block), get_or-map aligned_block (filter test ps) k q (aligned_block q) lt ∙ ap aligned_block at),
  )

abbrev pub narrow_test : Prefix → Bool
narrow_test p = is_narrow p.addr

abbrev pub wide_test : Prefix → Bool
wide_test p = cond (is_narrow p.addr) false true

narrow_only : (p : Prefix) → narrow_test p ≡ true → is_narrow p.addr ≡ true
narrow_only p is = is

wide_only : (p : Prefix) → wide_test p ≡ true → is_narrow p.addr ≡ false
wide_only p is = ⊎_elim (λ (narrow : is_narrow p.addr ≡ true). absurd (true≢false (sym is ∙ ap (λ (b : Bool). cond b false true) narrow)))
    (λ (wide : is_narrow p.addr ≡ false). wide) (cases_Bool (is_narrow p.addr))

past : (n k : ℕ) → n + k - n ≡ k
past n k = omega arith

pub parted_aligned : (ps : List Prefix) → All IsAligned (map aligned_block ps)
parted_aligned ps = All-map IsAligned aligned_block ps (λ k d lt. aligned_is (get_or ps k d))

-- the prefixes through a change of one table
module _ (v4 v6 new : List Aligned) (h : AreFamilies v4 v6) (p : Prefix) where
  abbrev narrow4 : List Prefix
  narrow4 = map (prefix_of true) v4

  abbrev wide6 : List Prefix
  wide6 = map (prefix_of false) v6

  pub families_put_v4 : {E : Type 0} (r : Result Bool E) → is_narrow p.addr ≡ true → Inserts v4 new (aligned_block p) r → AreFamilies new v6
  families_put_v4 r is change = record { narrow = All-inserts (IsOf true) v4 new (aligned_block p) r change (ap aligned_block (again_of true p is)) h.narrow; wide = h.wide }

  pub families_put_v6 : {E : Type 0} (r : Result Bool E) → is_narrow p.addr ≡ false → Inserts v6 new (aligned_block p) r → AreFamilies v4 new
  families_put_v6 r is change = record { narrow = h.narrow; wide = All-inserts (IsOf false) v6 new (aligned_block p) r change (ap aligned_block (again_of false p is)) h.wide }

  pub families_take_v4 : (r : Bool) → Removes v4 new (aligned_block p) r → AreFamilies new v6
  families_take_v4 r change = record { narrow = All-removes (IsOf true) v4 new (aligned_block p) r change h.narrow; wide = h.wide }

  pub families_take_v6 : (r : Bool) → Removes v6 new (aligned_block p) r → AreFamilies v4 new
  families_take_v6 r change = record { narrow = h.narrow; wide = All-removes (IsOf false) v6 new (aligned_block p) r change h.wide }

  pub put_v4 : {E : Type 0} (r : Result Bool E) → is_narrow p.addr ≡ true → Inserts v4 new (aligned_block p) r → Inserts (both v4 v6) (both new v6) p r
  put_v4 (Ok true) is (absent, put) = (
    λ there. absent ((in_part v4 v6 h true p is).0 there),
    record {
      place = put.place;
      within = omega (arith, put.within, both-length v4 v6);
      put = ap (λ bs. both bs v6) put.put ∙ ap (λ ps. ps ++ wide6) (map-insert (prefix_of true) v4 put.place (aligned_block p))
          ∙ sym (insert-append_left narrow4 wide6 put.place (prefix_of true (aligned_block p)) (omega (arith, put.within, length-map v4 (prefix_of true))))
          ∙ ap (insert (both v4 v6) put.place) (again_of true p is);
    },
  )
  put_v4 (Ok false) is (there, same) = ((in_part v4 v6 h true p is).1 there, ap (λ bs. both bs v6) same)
  put_v4 (Err _) is (absent, same) = (λ there. absent ((in_part v4 v6 h true p is).0 there), ap (λ bs. both bs v6) same)

  pub put_v6 : {E : Type 0} (r : Result Bool E) → is_narrow p.addr ≡ false → Inserts v6 new (aligned_block p) r → Inserts (both v4 v6) (both v4 new) p r
  put_v6 (Ok true) is (absent, put) = (
    λ there. absent ((in_part v4 v6 h false p is).0 there),
    record {
      place = length v4 + put.place;
      within = omega (arith, put.within, both-length v4 v6);
      put = ap (both v4) put.put ∙ ap (λ ps. narrow4 ++ ps) (map-insert (prefix_of false) v6 put.place (aligned_block p))
          ∙ sym (insert-append_right narrow4 wide6 (length v4) (length v4 + put.place) (prefix_of false (aligned_block p)) (length-map v4 (prefix_of true)) (omega arith)
          ∙ ap (λ k. narrow4 ++ insert wide6 k (prefix_of false (aligned_block p))) (past (length v4) put.place)) ∙ ap (insert (both v4 v6) (length v4 + put.place)) (again_of false p is);
    },
  )
  put_v6 (Ok false) is (there, same) = ((in_part v4 v6 h false p is).1 there, ap (both v4) same)
  put_v6 (Err _) is (absent, same) = (λ there. absent ((in_part v4 v6 h false p is).0 there), ap (both v4) same)

  pub take_v4 : (r : Bool) → is_narrow p.addr ≡ true → Removes v4 new (aligned_block p) r → Removes (both v4 v6) (both new v6) p r
  take_v4 true is out = let lt = out.there.within in record {
    place = out.place;
    there = record {
      within = omega (arith, both-length v4 v6);
      is = λ d. get_or_append_left narrow4 wide6 d out.place (omega (arith, length-map v4 (prefix_of true))) ∙ get_or-map (prefix_of true) v4 out.place (aligned_block p) d lt
          ∙ ap (prefix_of true) (out.there.is (aligned_block p)) ∙ again_of true p is;
    };
    taken = ap (λ bs. both bs v6) out.taken ∙ ap (λ ps. ps ++ wide6) (map-remove (prefix_of true) v4 out.place)
        ∙ sym (remove-append_left narrow4 wide6 out.place (omega (arith, length-map v4 (prefix_of true))));
    gone = λ there. out.gone ((in_part new v6 (families_take_v4 true out) true p is).0 there);
  }
  take_v4 false is (absent, same) = (λ there. absent ((in_part v4 v6 h true p is).0 there), ap (λ bs. both bs v6) same)

  pub take_v6 : (r : Bool) → is_narrow p.addr ≡ false → Removes v6 new (aligned_block p) r → Removes (both v4 v6) (both v4 new) p r
  take_v6 true is out = let lt = out.there.within in record {
    place = length v4 + out.place;
    there = record {
      within = omega (arith, both-length v4 v6);
      is = λ d. get_or-append_right narrow4 wide6 (length v4) (length v4 + out.place) d (length-map v4 (prefix_of true)) (omega arith) ∙ ap (λ k. get_or wide6 k d) (past (length v4) out.place)
          ∙ get_or-map (prefix_of false) v6 out.place (aligned_block p) d lt ∙ ap (prefix_of false) (out.there.is (aligned_block p)) ∙ again_of false p is;
    };
    taken = ap (both v4) out.taken ∙ ap (λ ps. narrow4 ++ ps) (map-remove (prefix_of false) v6 out.place)
        ∙ sym (remove-append_right narrow4 wide6 (length v4) (length v4 + out.place) (length-map v4 (prefix_of true)) (omega arith) ∙ ap (λ k. narrow4 ++ remove wide6 k) (past (length v4) out.place));
    gone = λ there. out.gone ((in_part v4 new (families_take_v6 true out) false p is).0 there);
  }
  take_v6 false is (absent, same) = (λ there. absent ((in_part v4 v6 h false p is).0 there), ap (both v4) same)

-- the table of all the prefixes
module _ (ps : List Prefix) (t4 t6 : List Aligned) (same4 : (b : Aligned) → Contains t4 b ↔ Contains (map aligned_block (filter narrow_test ps)) b)
    (same6 : (b : Aligned) → Contains t6 b ↔ Contains (map aligned_block (filter wide_test ps)) b) where
  pub all_families : AreFamilies t4 t6
  all_families = record {
    narrow = All-members (IsOf true) _ t4 same4 (parted_of true narrow_test narrow_only ps);
    wide = All-members (IsOf false) _ t6 same6 (parted_of false wide_test wide_only ps);
  }

  pub all_prefixes : (q : Prefix) → Contains (both t4 t6) q ↔ Contains ps q
  all_prefixes q = ⊎_elim
      (λ (is : is_narrow q.addr ≡ true).
      let part = in_part t4 t6 all_families true q is in
      let all = in_parted true narrow_test narrow_only ps q is in
      (λ h. all.0 ((same4 (aligned_block q)).0 (part.0 h)), λ h. part.1 ((same4 (aligned_block q)).1 (all.1 h))))
      (λ (is : is_narrow q.addr ≡ false).
      let part = in_part t4 t6 all_families false q is in
      let all = in_parted false wide_test wide_only ps q (ap (λ (b : Bool). cond b false true) is) in
      (λ h. all.0 ((same6 (aligned_block q)).0 (part.0 h)), λ h. part.1 ((same6 (aligned_block q)).1 (all.1 h))))
      (cases_Bool (is_narrow q.addr))
