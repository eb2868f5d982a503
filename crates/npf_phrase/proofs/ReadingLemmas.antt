-- What stands first of tokens, and tests of it.
use Rattle.std.proofs.Common.{◌≡◌, ◌+◌, ◌-◌, Bool, true, false, ◌&&◌, ◌||◌, not, Option, Some, None, is_some, List, [], ◌∷◌, ◌++◌, length, take, refl, sym, ap, ◌∙◌, append_assoc, arith}
use Rattle.std.proofs.lemmas.List.{length-append, take_at}
use Rattle.npf_phrase.specs.Phrase.{ahead, head, front_of, chosen}

pub head_behind : {T : Type 0} (us vs : List T) → head (us ++ vs) ≡ ahead us (head vs)
head_behind [] vs = refl
head_behind (u ∷ us) vs = refl

-- what stands first, by the parts of the tokens
pub head_parts : {T : Type 0} {ts : List T} (us vs : List T) → ts ≡ us ++ vs → head ts ≡ ahead us (head vs)
head_parts us vs parts = ap head parts ∙ head_behind us vs

pub head_three : {T : Type 0} (us vs ws : List T) → head (us ++ (vs ++ ws)) ≡ ahead (us ++ vs) (head ws)
head_three us vs ws = head_parts (us ++ vs) ws (sym (append_assoc us vs ws))

-- parts behind parts
pub joined_parts : {T : Type 0} {ts mid : List T} (us vs ws : List T) → ts ≡ us ++ mid → mid ≡ vs ++ ws → ts ≡ (us ++ vs) ++ ws
joined_parts us vs ws parts onward = parts ∙ ap (λ xs. us ++ xs) onward ∙ sym (append_assoc us vs ws)

-- the tokens that come before others are those that stand there
pub front_is : {T : Type 0} (front rest ts : List T) → ts ≡ front ++ rest → front_of ts rest ≡ front
unfolding front_of
front_is front rest ts parts =
    let count : length ts ≡ length front + length rest = ap length parts ∙ length-append front rest in
    ap (λ us. take (length ts - length rest) us) parts ∙ take_at front rest (length ts - length rest) (omega arith)

pub or_false : {a b : Bool} → (a || b) ≡ false → (a ≡ false) × (b ≡ false)
or_false {a = true} is = cc
or_false {a = false} is = (refl, is)

pub or_other : (a : Bool) {b : Bool} → b ≡ true → (a || b) ≡ true
or_other true is = refl
or_other false is = is

pub and_true : {a b : Bool} → (a && b) ≡ true → (a ≡ true) × (b ≡ true)
and_true {a = true} is = (refl, is)
and_true {a = false} is = cc

pub not_true : {b : Bool} → not b ≡ true → b ≡ false
not_true {b = true} is = cc
not_true {b = false} is = refl

pub not_false : {b : Bool} → not b ≡ false → b ≡ true
not_false {b = true} is = refl
not_false {b = false} is = cc

pub shown : {A : Type 0} (o : Option A) → is_some o ≡ true → (a : A) × (o ≡ Some a)
shown (Some a) is = (a, refl)
shown None is = cc

module _ {P Q P' Q' : Type 0} where
  pub choose : (b : Bool) → chosen b P Q → (b ≡ true → P → P') → (b ≡ false → Q → Q') → chosen b P' Q'
  choose true is one other = one refl is
  choose false is one other = other refl is

pub take_first : {b : Bool} {P : Type 0} (Q : Type 0) → b ≡ true → P → chosen b P Q
take_first {b = true} Q is p = p
take_first {b = false} Q is p = cc

pub take_second : {b : Bool} (P : Type 0) {Q : Type 0} → b ≡ false → Q → chosen b P Q
take_second {b = true} P is q = cc
take_second {b = false} P is q = q

pub either_of : {R P Q : Type 0} (b : Bool) → chosen b P Q → (b ≡ true → P → R) → (b ≡ false → Q → R) → R
either_of true is one other = one refl is
either_of false is one other = other refl is

pub by_choice : (b : Bool) (P Q G : Type 0) → (P → G) → (Q → G) → chosen b P Q → G
by_choice true P Q G one other is = one is
by_choice false P Q G one other is = other is
