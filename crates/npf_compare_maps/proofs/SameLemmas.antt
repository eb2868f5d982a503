-- What two maps write is the same or it isn't, so that what doesn't differ is the same.
use Rattle.std.proofs.Common.{◌≡◌, ℕ, Option, Some, None, ◌⊎◌, refl, sym, ap, ap₂, inl, inr}
use Rattle.std.proofs.lemmas.Bool.{cases_eq}
use Rattle.std.proofs.lemmas.Option.{none-some, same_Some}
use Rattle.npf_types.proofs.PrefixLemmas.{Prefix-same}
use Rattle.npf_types.specs.declared.{address.Addr.{Addr, TheVariants.{V4, V6}}, prefix.Prefix.Prefix}
use Rattle.npf_treatment.specs.declared.map.AddressEffect.{AddressEffect, TheVariants.{One, Block, Neutral}}
use Rattle.npf_treatment.specs.declared.map.MapEffect.{MapEffect}
use Rattle.npf_treatment.specs.declared.map.PortEffect.{PortEffect, TheVariants.{Kept, Drawn, Written}}

-- both are one, or they aren't
abbrev pub AreOneOrTwo : {X : Type 0} → X → X → Type 0
AreOneOrTwo x y = (x ≡ y) ⊎ (x ≡ y → ⊥)

-- what has one part, or two, that can be told from the whole
by_part : {X Y : Type 0} (f : X → Y) (x y : X) → (f x ≡ f y → x ≡ y) → AreOneOrTwo x y → AreOneOrTwo (f x) (f y)
by_part f x y part (inl is) = inl (ap f is)
by_part f x y part (inr isnt) = inr (λ same. isnt (part same))

by_parts : {X Y Z : Type 0} (f : X → Y → Z) (x y : X) (v w : Y) → (f x v ≡ f y w → x ≡ y) → (f x v ≡ f y w → v ≡ w) → AreOneOrTwo x y → AreOneOrTwo v w
    → AreOneOrTwo (f x v) (f y w)
by_parts f x y v w one other (inl is) (inl too) = inl (ap₂ f is too)
by_parts f x y v w one other (inr isnt) too = inr (λ same. isnt (one same))
by_parts f x y v w one other (inl is) (inr isnt) = inr (λ same. isnt (other same))

one_address : (x y : Addr) → AreOneOrTwo x y
one_address (V4 x) (V4 y) = by_part V4 x y (λ same. cc) (cases_eq x y)
one_address (V6 x) (V6 y) = by_part V6 x y (λ same. cc) (cases_eq x y)
one_address (V4 x) (V6 y) = inr (λ same. cc)
one_address (V6 x) (V4 y) = inr (λ same. cc)

one_block : (p q : Prefix) → AreOneOrTwo p q
one_block p q = by (one_address p.addr q.addr) (cases_eq p.len q.len) where
  by : AreOneOrTwo p.addr q.addr → AreOneOrTwo p.len q.len → AreOneOrTwo p q
  by (inl is) (inl too) = inl (Prefix-same p q is too)
  by (inr isnt) too = inr (λ same. isnt (ap (λ (r : Prefix). r.addr) same))
  by (inl is) (inr isnt) = inr (λ same. isnt (ap (λ (r : Prefix). r.len) same))

one_target : (x y : AddressEffect) → AreOneOrTwo x y
one_target (One x) (One y) = by_part One x y (λ same. cc) (one_address x y)
one_target (Block x) (Block y) = by_part Block x y (λ same. cc) (one_block x y)
one_target (Neutral x v) (Neutral y w) = by_parts Neutral x y v w (λ same. cc) (λ same. cc) (one_block x y) (one_block v w)
one_target (One x) (Block y) = inr (λ same. cc)
one_target (One x) (Neutral y w) = inr (λ same. cc)
one_target (Block x) (One y) = inr (λ same. cc)
one_target (Block x) (Neutral y w) = inr (λ same. cc)
one_target (Neutral x v) (One y) = inr (λ same. cc)
one_target (Neutral x v) (Block y) = inr (λ same. cc)

one_option : {X : Type 0} → ((x y : X) → AreOneOrTwo x y) → (o p : Option X) → AreOneOrTwo o p
one_option each None None = inl refl
one_option each None (Some y) = inr (λ same. none-some y same)
one_option each (Some x) None = inr (λ same. none-some x (sym same))
one_option each (Some x) (Some y) = by_part Some x y (same_Some x y) (each x y)

one_range : (x y : ℕ × ℕ) → AreOneOrTwo x y
one_range (a, b) (x, y) = by_parts (λ m n. (m, n)) a x b y (ap (λ pair. pair.0)) (ap (λ pair. pair.1)) (cases_eq a x) (cases_eq b y)

one_port : (x y : PortEffect) → AreOneOrTwo x y
one_port Kept Kept = inl refl
one_port (Drawn x) (Drawn y) = by_part Drawn x y (λ same. cc) (one_option one_range x y)
one_port (Written x) (Written y) = by_part Written x y (λ same. cc) (cases_eq x y)
one_port Kept (Drawn y) = inr (λ same. cc)
one_port Kept (Written y) = inr (λ same. cc)
one_port (Drawn x) Kept = inr (λ same. cc)
one_port (Drawn x) (Written y) = inr (λ same. cc)
one_port (Written x) Kept = inr (λ same. cc)
one_port (Written x) (Drawn y) = inr (λ same. cc)

one_effect : (x y : MapEffect) → AreOneOrTwo x y
one_effect x y =
    by_parts (λ address port. record { address = address; port = port }) x.address y.address x.port y.port
    (ap (λ (effect : MapEffect). effect.address)) (ap (λ (effect : MapEffect). effect.port)) (one_target x.address y.address) (one_port x.port y.port)

-- what isn't told as a difference is written alike
pub written_alike : (x y : Option MapEffect) → ((x ≡ y → ⊥) → ⊥) → x ≡ y
written_alike x y never = by (one_option one_effect x y) where
  by : AreOneOrTwo x y → x ≡ y
  by (inl same) = same
  by (inr other) = absurd (never other)
