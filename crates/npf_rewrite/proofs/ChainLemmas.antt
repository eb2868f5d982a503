-- The chains of a packet in bytes that are the same where the chain is read.
use Rattle.std.proofs.Common.{◌≡◌, ℕ, ◌+◌, ◌<◌, ◌≤◌, false, Option, Some, None, List, [], ◌∷◌, refl, sym, ap, ◌∙◌, subst, arith}
use Rattle.std.{proofs.lemmas.Bool.Decides.nat_tests, specs.{Option.option_or, Prelude.slice_index}}
use Rattle.npf_packet.specs.{Chain.IsChain, Ipv6.{is_extension, next_header}, TcpOption.{HasOptions, first_said, mss_at, option_end, scale_at}}
use Rattle.npf_packet.proofs.ChainLemmas.{is_some_and}

module _ (next next' : ℕ → Option ℕ) (from : ℕ) (same : (x : ℕ) → from ≤ x → next' x ≡ next x)
    (onward : (x y : ℕ) → next x ≡ Some y → x ≤ y) where
  chain-stays : (first : ℕ) (xs : List ℕ) (last : ℕ) → from ≤ first → IsChain next first xs last
      → IsChain next' first xs last
  chain-stays first [] last behind chain = (chain.0, same first behind ∙ chain.1)
  chain-stays first (x ∷ xs) last behind chain =
      let on = is_some_and (next first) (λ second. IsChain next second xs last) chain.1 in
      let rest = chain-stays on.0 xs last (omega (arith, onward first on.0 on.1.0)) on.1.1 in
      (chain.0, rw (same first behind ∙ on.1.0) rest)

  said-stays : (says says' : ℕ → Option ℕ) → ((x : ℕ) → from ≤ x → says' x ≡ says x)
      → (first : ℕ) (xs : List ℕ) (last : ℕ) → from ≤ first → IsChain next first xs last
      → first_said says' xs ≡ first_said says xs
  said-stays says says' equal first [] last behind chain = refl
  said-stays says says' equal first (x ∷ xs) last behind chain =
      let on = is_some_and (next first) (λ second. IsChain next second xs last) chain.1 in
      let rest = said-stays says says' equal on.0 xs last (omega (arith, onward first on.0 on.1.0)) on.1.1
      in
      ap (λ o. option_or o (first_said says' xs)) (equal x (omega (arith, chain.0)))
      ∙ ap (option_or (says x)) rest

-- the options of a segment
module _ (old new : List ℕ) (from to : ℕ)
    (same : (k : ℕ) → from ≤ k → slice_index new k ≡ slice_index old k) where
  option_end-same : (at : ℕ) → from ≤ at → option_end new to at ≡ option_end old to at
  option_end-same at behind =
      let kind = same at behind in
      let size = same (at + 1) (omega arith) in
      cc

  option_end-onward : (at end : ℕ) → option_end old to at ≡ Some end → at ≤ end
  option_end-onward at end h = grind (arith, nat_tests)

  scale_at-same : (at : ℕ) → from ≤ at → scale_at new at ≡ scale_at old at
  scale_at-same at behind =
      let kind = same at behind in
      let size = same (at + 1) (omega arith) in
      let shift = same (at + 2) (omega arith) in
      cc

  mss_at-same : (at : ℕ) → from ≤ at → mss_at new at ≡ mss_at old at
  mss_at-same at behind =
      let kind = same at behind in
      let size = same (at + 1) (omega arith) in
      cc

  pub options-stay : (options : _) → HasOptions old from to options → HasOptions new from to options
  options-stay options read = record {
    places = read.places;
    last = read.last;
    chain = chain-stays (option_end old to) (option_end new to) from option_end-same option_end-onward
        from read.places read.last (omega arith) read.chain;
    scale = read.scale
        ∙ sym (said-stays (option_end old to) (option_end new to) from option_end-same
        option_end-onward (scale_at old) (scale_at new) scale_at-same from read.places read.last
        (omega arith) read.chain);
    mss = read.mss
        ∙ sym (said-stays (option_end old to) (option_end new to) from option_end-same
        option_end-onward (mss_at old) (mss_at new) mss_at-same from read.places read.last
        (omega arith) read.chain);
  }

-- the headers of IPv6 up to the last, which isn't one of extension
module _ {H : Type 0} (next next' : H → Option H) (place : H → ℕ)
    (onward : (x y : H) → next x ≡ Some y → place x + 2 ≤ place y) (from : ℕ) (last : H)
    (ends : next' last ≡ None)
    (same : (x : H) → from ≤ place x → place x + 2 ≤ place last → next' x ≡ next x) where
  places-stay : (first : H) (xs : List H) → from ≤ place first → IsChain next first xs last
      → (place first ≤ place last) × IsChain next' first xs last
  places-stay first [] behind chain =
      let P : H → Type 0 = λ x. (place x ≤ place last) × (next' x ≡ None) in
      let here = subst P chain.0 (let e : place last ≤ place last = omega arith in (e, ends)) in
      (here.0, (chain.0, here.1))
  places-stay first (x ∷ xs) behind chain =
      let on = is_some_and (next first) (λ second. IsChain next second xs last) chain.1 in
      let far = onward first on.0 on.1.0 in
      let rest = places-stay on.0 xs (omega (arith, far)) on.1.1 in
      let e = same first behind (omega (arith, far, rest.0)) ∙ on.1.0 in
      (omega (arith, far, rest.0), (chain.0, rw e rest.1))

module _ (old new : List ℕ) (end : ℕ) where
  next_header-same : (k n a : ℕ) → slice_index new a ≡ slice_index old a
      → slice_index new (a + 1) ≡ slice_index old (a + 1)
      → next_header new end (record { kind = k; named_at = n; at = a }) ≡ next_header old end (record { kind = k; named_at = n; at = a })
  next_header-same k n a kind size = cc

  next_header-onward : (k n a k' n' a' : ℕ)
      → next_header old end (record { kind = k; named_at = n; at = a }) ≡ Some (record { kind = k'; named_at = n'; at = a' })
      → a + 2 ≤ a'
  next_header-onward k n a k' n' a' h = grind (arith, nat_tests)

  next_header-last : (k n a : ℕ) → is_extension k ≡ false
      → next_header new end (record { kind = k; named_at = n; at = a }) ≡ None
  next_header-last k n a last = cc

  pub headers-stay : (from : ℕ) (first last : _) (xs : List _)
      → IsChain (next_header old end) first xs last
      → is_extension last.kind ≡ false → from ≤ first.at
      → ((k : ℕ) → from ≤ k → k < last.at → slice_index new k ≡ slice_index old k)
      → (first.at ≤ last.at) × IsChain (next_header new end) first xs last
  headers-stay from first last xs chain is behind same =
      places-stay (next_header old end) (next_header new end) (λ x. x.at)
      (λ x y h. next_header-onward x.kind x.named_at x.at y.kind y.named_at y.at h) from last
      (next_header-last last.kind last.named_at last.at is)
      (λ x from to. next_header-same x.kind x.named_at x.at (same x.at from (omega arith))
      (same (x.at + 1) (omega arith) (omega arith)))
      first xs behind chain
