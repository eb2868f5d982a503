-- The options of a segment of which the number of a maximum segment size is written.
use Rattle.std.proofs.Common.{◌≡◌, ℕ, ◌+◌, ◌<◌, ◌≤◌, ◌⊎◌, Option, Some, None, List, [], ◌∷◌, refl, sym, ap, ◌∙◌, subst, inl, inr, arith}
use Rattle.std.{proofs.lemmas.Bool.Decides.nat_tests, specs.{Option.option_or, Prelude.slice_index}}
use Rattle.npf_packet.{specs.{Chain.IsChain, TcpOption.{HasOptions, first_said, mss_at, option_end, scale_at}}, proofs.ChainLemmas.is_some_and}
use Rattle.npf_rewrite.proofs.ChainLemmas.{options-stay}

-- an option in front of others
prepends : (bytes : List ℕ) (to first second : ℕ) (scale mss : Option ℕ) (rest : _)
    → option_end bytes to first ≡ Some second → scale_at bytes first ≡ scale → mss_at bytes first ≡ mss
    → HasOptions bytes second to rest
    → HasOptions bytes first to (record { scale = option_or scale rest.scale; mss_at = option_or mss rest.mss_at })
prepends bytes to first second scale mss rest e scales sizes read = record {
  places = first ∷ read.places;
  last = read.last;
  chain = (refl, rw e read.chain);
  scale = ap (option_or scale) read.scale
      ∙ ap (λ o. option_or o (first_said (scale_at bytes) read.places)) (sym scales);
  mss = ap (option_or mss) read.mss
      ∙ ap (λ o. option_or o (first_said (mss_at bytes) read.places)) (sym sizes);
}

option_end-behind : (bytes : List ℕ) (to first second : ℕ) → option_end bytes to first ≡ Some second → first + 1 ≤ second
option_end-behind bytes to first second h = grind (arith, nat_tests)

-- the option of a maximum segment size
pub record IsSize (bytes : List ℕ) (first second at : ℕ) : Type 0 where
  pub kind : slice_index bytes first ≡ 2
  pub number : at ≡ first + 2
  pub end : second ≡ first + 4

is_size : (bytes : List ℕ) (to first second at : ℕ) → option_end bytes to first ≡ Some second
    → mss_at bytes first ≡ Some at → IsSize bytes first second at
is_size bytes to first second at e h = record {
  kind = grind (arith, nat_tests);
  number = grind (arith, nat_tests);
  end = grind (arith, nat_tests);
}

no-scale : (bytes : List ℕ) (first : ℕ) → slice_index bytes first ≡ 2 → scale_at bytes first ≡ None
no-scale bytes first kind = grind (arith, nat_tests)

module _ (old new : List ℕ) (from to at : ℕ)
    (same : (k : ℕ) → from ≤ k → (k < at) ⊎ (at + 2 ≤ k) → slice_index new k ≡ slice_index old k) where
  option_end-equal : (first : ℕ) → slice_index new first ≡ slice_index old first
      → slice_index new (first + 1) ≡ slice_index old (first + 1)
      → option_end new to first ≡ option_end old to first
  option_end-equal first kind size = cc

  mss_at-equal : (first : ℕ) → slice_index new first ≡ slice_index old first
      → slice_index new (first + 1) ≡ slice_index old (first + 1) → mss_at new first ≡ mss_at old first
  mss_at-equal first kind size = cc

  scale_at-equal : (first : ℕ) → slice_index new first ≡ slice_index old first
      → slice_index new (first + 1) ≡ slice_index old (first + 1)
      → slice_index new (first + 2) ≡ slice_index old (first + 2) → scale_at new first ≡ scale_at old first
  scale_at-equal first kind size shift = cc

  abbrev Stays : ℕ → List ℕ → Type 0
  Stays first xs = (first + 2 ≤ at)
      × HasOptions new first to (record { scale = first_said (scale_at old) xs; mss_at = first_said (mss_at old) xs })

  at-place : (first second : ℕ) (xs : List ℕ) (last : ℕ) (o : Option ℕ) → from ≤ first
      → option_end old to first ≡ Some second → IsChain (option_end old to) second xs last
      → mss_at old first ≡ o → option_or o (first_said (mss_at old) xs) ≡ Some at
      → (from ≤ second → first_said (mss_at old) xs ≡ Some at → Stays second xs)
      → Stays first (first ∷ xs)
  at-place first second xs last None behind e chain none says rest =
      let after = option_end-behind old to first second e in
      let there = rest (omega (arith, behind, after)) says in
      let kind = same first behind (inl (omega (arith, after, there.0))) in
      let size = same (first + 1) (omega arith) (inl (omega (arith, after, there.0))) in
      let shift = same (first + 2) (omega arith) (inl (omega (arith, after, there.0))) in (
        omega (arith, after, there.0),
        prepends new to first second (scale_at old first) (mss_at old first) _
            (option_end-equal first kind size ∙ e)
            (scale_at-equal first kind size shift) (mss_at-equal first kind size) there.1,
      )
  at-place first second xs last (Some a) behind e chain some says rest =
      let is = is_size old to first second at e (some ∙ says) in
      let kind = same first behind (inl (omega (arith, is.number))) in
      let size = same (first + 1) (omega arith) (inl (omega (arith, is.number))) in
      let read = options-stay old new second to
      (λ k onward. same k (omega (arith, is.end)) (inr (omega (arith, is.end, is.number))))
      (record { scale = first_said (scale_at old) xs; mss_at = first_said (mss_at old) xs })
      (record { places = xs; last = last; chain = chain; scale = refl; mss = refl }) in (
        omega (arith, is.number),
        prepends new to first second (scale_at old first) (mss_at old first) _
            (option_end-equal first kind size ∙ e)
            (no-scale new first (kind ∙ is.kind) ∙ sym (no-scale old first is.kind))
            (mss_at-equal first kind size) read,
      )

  numbers-stay : (first : ℕ) (xs : List ℕ) (last : ℕ) → from ≤ first
      → IsChain (option_end old to) first xs last → first_said (mss_at old) xs ≡ Some at → Stays first xs
  numbers-stay first [] last behind chain says = absurd (cc)
  numbers-stay first (x ∷ xs) last behind chain says =
      let on = is_some_and (option_end old to first) (λ second. IsChain (option_end old to) second xs last)
      chain.1 in
      subst (λ y. first_said (mss_at old) (y ∷ xs) ≡ Some at → Stays first (y ∷ xs)) (sym chain.0)
      (λ said. at-place first on.0 xs last (mss_at old first) behind on.1.0 on.1.1 refl said
      (λ onward more. numbers-stay on.0 xs last onward on.1.1 more)) says

  -- where the number is written, the options say the same
  pub number-stays : (options : _) → HasOptions old from to options → options.mss_at ≡ Some at
      → HasOptions new from to options
  number-stays options read is =
      let stays = (numbers-stay from read.places read.last (omega arith) read.chain (sym read.mss ∙ is)).1 in
      record {
        places = stays.places;
        last = stays.last;
        chain = stays.chain;
        scale = read.scale ∙ stays.scale;
        mss = read.mss ∙ stays.mss;
      }
