-- What the length of the outermost block of the last place at or below an address says of it.
use Rattle.std.proofs.Common.{◌≡◌, ◌↔◌, ℕ, List, ◌+◌, ◌-◌, ◌*◌, ◌<◌, ◌≤◌, suc, zero, length, get_or, refl, sym, ◌∙◌, arith, subst, ⊎_elim, ◌⊎◌, inl, inr}
use Rattle.std.proofs.lemmas.Bool.{cases_lt, cases_eq}
use Rattle.npf_types.specs.Address.{first_bits}
use Rattle.npf_lpm.specs.{declared.aligned.Aligned.Aligned, Agree.{AgreesIn, HasNumber, IsAligned}, Cut.IsCut, Rows.{AreRows, IsTop, aligned_blocks, rank}}
use Rattle.npf_lpm.proofs.{AgreeLemmas.{agrees_between, agrees_wider, first_below}, RowLemmas.{get_or-blocks, length-blocks}}

-- some block up to the place has the address
pub record IsUnder (fs ls : List ℕ) (place addr : ℕ) : Type 0 where
  pub at : ℕ
  pub upto : at ≤ place
  pub has : AgreesIn (get_or ls at 0) (get_or fs at 0) addr

module _ (fs ls ts : List ℕ) (h : AreRows fs ls ts) where
  none : Aligned
  none = record { first = 0; len = 0 }

  block_at : (k : ℕ) → k < length fs → IsAligned (record { first = get_or fs k 0; len = get_or ls k 0 })
  block_at k lt = subst IsAligned (get_or-blocks fs ls k none h.ordered.pairs lt) (h.ordered.aligned k none (omega (arith, length-blocks fs ls h.ordered.pairs)))

  up : (k : ℕ) → suc k < length fs → get_or fs k 0 * 256 + get_or ls k 0 < get_or fs (suc k) 0 * 256 + get_or ls (suc k) 0
  up k lt =
      let at = λ (i : ℕ) (in' : i < length fs). get_or-blocks fs ls i none h.ordered.pairs in' in
      subst (λ (p : Aligned). rank p < rank (record { first = get_or fs (suc k) 0; len = get_or ls (suc k) 0 })) (at k (omega arith))
      (subst (λ (q : Aligned). rank (get_or (aligned_blocks fs ls) k none) < rank q) (at (suc k) lt)
      (h.ordered.rises k (suc k) none (omega arith) (omega (arith, length-blocks fs ls h.ordered.pairs))))

  -- two blocks that have an address of one are nested: the earlier is the outer one
  nested : (k t : ℕ) → suc k < length fs → t ≤ get_or ls k 0 → AgreesIn t (get_or fs k 0) (get_or fs (suc k) 0) → t ≤ get_or ls (suc k) 0
  nested k t lt outer same = ⊎_elim
      (λ (shorter : get_or ls (suc k) 0 < t).
      let next = block_at (suc k) lt in
      let this = block_at k (omega arith) in
      let short = this.short in
      let wide : AgreesIn (get_or ls (suc k) 0) (get_or fs (suc k) 0) (get_or fs k 0) =
      sym (agrees_wider (get_or ls (suc k) 0) t (get_or fs k 0) (get_or fs (suc k) 0) (omega arith) (omega arith) same) in
      let low : get_or fs (suc k) 0 ≤ get_or fs k 0 = first_below (get_or ls (suc k) 0) (get_or fs (suc k) 0) (get_or fs k 0) next.zeroed wide in
      let less = up k lt in
      absurd (omega arith))
      (λ (le : t ≤ get_or ls (suc k) 0). le)
      (cases_lt (get_or ls (suc k) 0) t)

  -- whatever has an address at or above a place lies in the place's outermost block
  pub record IsOuter (k : ℕ) : Type 0 where
    pub inner : get_or ts k 0 ≤ get_or ls k 0
    pub covers : (a : ℕ) → get_or fs k 0 ≤ a → IsUnder fs ls k a → AgreesIn (get_or ts k 0) (get_or fs k 0) a
    pub under : (a : ℕ) → AgreesIn (get_or ts k 0) (get_or fs k 0) a → IsUnder fs ls k a

  outer_more : (k : ℕ) → suc k < length fs → IsOuter k → IsOuter (suc k)
  outer_more k lt last = ⊎_elim
      (λ (same : AgreesIn t (get_or fs k 0) (get_or fs (suc k) 0)).
      let stays : get_or ts (suc k) 0 ≡ t = top.stays k (omega arith) same in
      record {
        inner = let le = nested k t lt last.inner same in omega (arith, stays);
        covers = λ a ge u. subst (λ (x : ℕ). AgreesIn x (get_or fs (suc k) 0) a) (sym stays) (sym same ∙ ⊎_elim
            (λ (early : u.at ≤ k). last.covers a (omega (arith, ge, climb)) (record { at = u.at; upto = early; has = u.has }))
            (λ (late : k < u.at).
            let upto = u.upto in
            let here : u.at ≡ suc k = omega arith in
            let mine : AgreesIn (get_or ls (suc k) 0) (get_or fs (suc k) 0) a = subst (λ (i : ℕ). AgreesIn (get_or ls i 0) (get_or fs i 0) a) here u.has in
            same ∙ agrees_wider t (get_or ls (suc k) 0) (get_or fs (suc k) 0) a (nested k t lt last.inner same) (block_at (suc k) lt).short mine)
            (split u.at));
        under = λ a has.
            let u = last.under a (same ∙ subst (λ (x : ℕ). AgreesIn x (get_or fs (suc k) 0) a) stays has) in
            record { at = u.at; upto = let le = u.upto in omega arith; has = u.has };
      })
      (λ (apart : ¬ AgreesIn t (get_or fs k 0) (get_or fs (suc k) 0)).
      let begins : get_or ts (suc k) 0 ≡ get_or ls (suc k) 0 = top.begins k (omega arith) apart in
      record {
        inner = omega arith;
        covers = λ a ge u. ⊎_elim
            (λ (early : u.at ≤ k).
            let old = last.covers a (omega (arith, ge, climb)) (record { at = u.at; upto = early; has = u.has }) in
            absurd (apart (agrees_between t (get_or fs k 0) (get_or fs (suc k) 0) a climb ge old)))
            (λ (late : k < u.at).
            let upto = u.upto in
            let here : u.at ≡ suc k = omega arith in
            subst (λ (x : ℕ). AgreesIn x (get_or fs (suc k) 0) a) (sym begins) (subst (λ (i : ℕ). AgreesIn (get_or ls i 0) (get_or fs i 0) a) here u.has))
            (split u.at);
        under = λ a has. record { at = suc k; upto = omega arith; has = subst (λ (x : ℕ). AgreesIn x (get_or fs (suc k) 0) a) begins has };
      })
      (agrees_or_not t (get_or fs k 0) (get_or fs (suc k) 0)) where
        t : ℕ
        t = get_or ts k 0

        top : IsTop fs ls ts (suc k) (get_or ts (suc k) 0)
        top = h.tops (suc k) lt

        climb : get_or fs k 0 ≤ get_or fs (suc k) 0
        climb = h.ordered.climbs k (suc k) 0 (omega arith) lt

        split : (i : ℕ) → (i ≤ k) ⊎ (k < i)
        split i = ⊎_elim (λ (late : k < i). inr late) (λ (early : i ≤ k). inl early) (cases_lt k i)

        agrees_or_not : (n a b : ℕ) → AgreesIn n a b ⊎ (¬ AgreesIn n a b)
        agrees_or_not n a b = cases_eq (first_bits 128 n a) (first_bits 128 n b)

  outer : (k : ℕ) → k < length fs → IsOuter k
  outer zero lt =
      let own : get_or ts 0 0 ≡ get_or ls 0 0 = (h.tops 0 lt).starts refl in
      record {
        inner = omega arith;
        covers = λ a ge u. let upto = u.upto in let first : u.at ≡ 0 = omega arith in
            subst (λ (t : ℕ). AgreesIn t (get_or fs 0 0) a) (sym own) (subst (λ (i : ℕ). AgreesIn (get_or ls i 0) (get_or fs i 0) a) first u.has);
        under = λ a has. record { at = 0; upto = omega arith; has = subst (λ (t : ℕ). AgreesIn t (get_or fs 0 0) a) own has };
      }
  outer (suc k) lt = outer_more k lt (outer k (omega arith))

  -- a block of the list that has the address begins at or below it
  under_of : (a count : ℕ) → IsCut (λ first. first) (a + 1) fs count → HasNumber (aligned_blocks fs ls) a → (k : ℕ) × (k < count) × AgreesIn (get_or ls k 0) (get_or fs k 0) a
  under_of a count cut has =
      let (k, lt, is) = has.among in
      let within : k < length fs = omega (arith, length-blocks fs ls h.ordered.pairs) in
      let at : has.block ≡ record { first = get_or fs k 0; len = get_or ls k 0 } = sym is ∙ get_or-blocks fs ls k has.block h.ordered.pairs within in
      let mine : AgreesIn (get_or ls k 0) (get_or fs k 0) a = subst (λ (b : Aligned). AgreesIn b.len b.first a) at has.has in
      let low : get_or fs k 0 ≤ a = first_below (get_or ls k 0) (get_or fs k 0) a (block_at k within).zeroed mine in
      (k, ⊎_elim (λ lt. lt) (λ (ge : count ≤ k). let high = cut.behind k 0 ge within in absurd (omega arith)) (cases_lt k count), mine)

  pub none_below : (a count : ℕ) → IsCut (λ first. first) (a + 1) fs count → count ≡ 0 → ¬ HasNumber (aligned_blocks fs ls) a
  none_below a count cut empty has = let (k, lt, _) = under_of a count cut has in omega arith

  -- else the outermost block of the last of them decides
  pub last_decides : (a count t f : ℕ) → IsCut (λ first. first) (a + 1) fs count → 0 < count → t ≡ get_or ts (count - 1) 0 → f ≡ get_or fs (count - 1) 0
      → AgreesIn t f a ↔ HasNumber (aligned_blocks fs ls) a
  last_decides a count t f cut some top first =
      let last = count - 1 in
      let most = cut.most in
      let below = cut.before last 0 (omega arith) in
      let o = outer last (omega arith) in (
        λ same.
            let u = o.under a (subst (λ (x : ℕ). AgreesIn x (get_or fs last 0) a) top (subst (λ (x : ℕ). AgreesIn t x a) first same)) in
            let upto = u.upto in
            let within : u.at < length fs = omega arith in
            record {
              block = record { first = get_or fs u.at 0; len = get_or ls u.at 0 };
              among = (u.at, omega (arith, length-blocks fs ls h.ordered.pairs), get_or-blocks fs ls u.at _ h.ordered.pairs within);
              has = u.has;
            },
        λ has. let (k, lt, mine) = under_of a count cut has in
            subst (λ (x : ℕ). AgreesIn t x a) (sym first) (subst (λ (x : ℕ). AgreesIn x (get_or fs last 0) a) (sym top) (o.covers a (omega arith) (record { at = k; upto = omega arith; has = mine }))),
      )
