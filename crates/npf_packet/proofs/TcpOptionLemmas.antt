-- The options that were read so far, and that there is one reading of them.
use Rattle.std.{proofs.Common.{◌≡◌, ℕ, Option, Some, None, List, [], ◌∷◌, ◌++◌, refl, sym, ap, ◌∙◌, append-nil}, specs.Option.option_or}
use Rattle.npf_packet.specs.{declared.tcp_option.Options.Options, TcpOption.{HasOptions, option_end, scale_at, mss_at, first_said}}
use Rattle.npf_packet.proofs.ChainLemmas.{HasPassed, passes_none, passes_one, ends_at, same_chain}

-- the options that begin at the passed places say this
pub record HasRead (bytes : List ℕ) (from to at : ℕ) (scale mss : Option ℕ) : Type 0 where
  pub places : List ℕ
  pub passed : HasPassed (option_end bytes to) from places at
  pub scales : scale ≡ first_said (scale_at bytes) places
  pub sizes : mss ≡ first_said (mss_at bytes) places

option_or_assoc : (a b c : Option ℕ) → option_or (option_or a b) c ≡ option_or a (option_or b c)
option_or_assoc None b c = refl
option_or_assoc (Some x) b c = refl

option_or-None : (a : Option ℕ) → option_or a None ≡ a
option_or-None None = refl
option_or-None (Some x) = refl

-- one place more says something only where none before it does
first_said-more : (says : ℕ → Option ℕ) (places : List ℕ) (place : ℕ) → first_said says (places ++ place ∷ []) ≡ option_or (first_said says places) (says place)
first_said-more says [] place = option_or-None (says place)
first_said-more says (p ∷ places) place =
    ap (option_or (says p)) (first_said-more says places place) ∙ sym (option_or_assoc (says p) (first_said says places) (says place))

pub reads_none : (bytes : List ℕ) (from to : ℕ) → HasRead bytes from to from None None
reads_none bytes from to = record { places = []; passed = passes_none (option_end bytes to) from; scales = refl; sizes = refl }

pub reads_one : (bytes : List ℕ) (from to at end : ℕ) (scale mss : Option ℕ) → HasRead bytes from to at scale mss → option_end bytes to at ≡ Some end →
    HasRead bytes from to end (option_or scale (scale_at bytes at)) (option_or mss (mss_at bytes at))
reads_one bytes from to at end scale mss read e = record {
  places = read.places ++ at ∷ [];
  passed = passes_one (option_end bytes to) from read.places at end read.passed e;
  scales = ap (λ o. option_or o (scale_at bytes at)) read.scales ∙ sym (first_said-more (scale_at bytes) read.places at);
  sizes = ap (λ o. option_or o (mss_at bytes at)) read.sizes ∙ sym (first_said-more (mss_at bytes) read.places at);
}

pub reads_all : (bytes : List ℕ) (from to at : ℕ) (scale mss : Option ℕ) → HasRead bytes from to at scale mss →
    option_end bytes to at ≡ None → HasOptions bytes from to (record { scale = scale; mss_at = mss })
reads_all bytes from to at scale mss read e = record {
  places = read.places ++ [];
  last = at;
  chain = ends_at (option_end bytes to) from read.places at read.passed e;
  scale = read.scales ∙ ap (first_said (scale_at bytes)) (sym (append-nil read.places));
  mss = read.sizes ∙ ap (first_said (mss_at bytes)) (sym (append-nil read.places));
}

-- there is one reading of the options
pub same_options : (bytes : List ℕ) (from to : ℕ) (one other : Options) → HasOptions bytes from to one → HasOptions bytes from to other → one ≡ other
same_options bytes from to one other p q =
    let places = (same_chain (option_end bytes to) from p.places q.places p.last q.last p.chain q.chain).0 in
    let scale : one.scale ≡ other.scale = p.scale ∙ ap (first_said (scale_at bytes)) places ∙ sym q.scale in
    let mss : one.mss_at ≡ other.mss_at = p.mss ∙ ap (first_said (mss_at bytes)) places ∙ sym q.mss in
    let made : Option ℕ → Option ℕ → Options = λ s m. record { scale = s; mss_at = m } in
    ap (λ s. made s one.mss_at) scale ∙ ap (made other.scale) mss
