-- What a word spells, from what its parts spell.
use Rattle.std.proofs.Common.{◌≡◌, ◌+◌, ◌==◌, ◌<◌, ◌^◌, ◌&&◌, ℕ, Bool, true, false, not, Option, Some, None, IfSome, IsTrue, ◌↔◌, List, [], ◌∷◌}
use Rattle.std.{proofs.Common.{◌++◌, length, slice_index, codes, refl, sym, ap, ◌∙◌, true≢false, arith}, specs.List.before_first}
use Rattle.npf_types.specs.declared.{change.End.End, key.Key.Key}
use Rattle.npf_saved.{specs.{Fields.FitsKeyText, Spelling.{addr_text, end_text, or_dash}}, proofs.{CutLemmas.{lacks, word_before}, FieldLemmas.addr_lacks}}

-- a list of five is its elements
five_of : (ks : List ℕ) → length ks ≡ 5
    → slice_index ks 0 ∷ slice_index ks 1 ∷ slice_index ks 2 ∷ slice_index ks 3 ∷ slice_index ks 4 ∷ [] ≡ ks
five_of [] five = absurd (omega (arith, five))
five_of (a ∷ []) five = absurd (omega (arith, five))
five_of (a ∷ b ∷ []) five = absurd (omega (arith, five))
five_of (a ∷ b ∷ c ∷ []) five = absurd (omega (arith, five))
five_of (a ∷ b ∷ c ∷ d ∷ []) five = absurd (omega (arith, five))
five_of (a ∷ b ∷ c ∷ d ∷ e ∷ []) five = refl
five_of (a ∷ b ∷ c ∷ d ∷ e ∷ f ∷ more) five = absurd (omega (arith, five))

pub key_of_five : (key : Key) → FitsKeyText key → (a b c d e : ℕ) → a ≡ slice_index key.0 0 → b ≡ slice_index key.0 1 → c ≡ slice_index key.0 2
    → d ≡ slice_index key.0 3 → e ≡ slice_index key.0 4 → a ∷ b ∷ c ∷ d ∷ e ∷ [] ≡ key.0
key_of_five key fits a b c d e one two three four five = rw (one, two, three, four, five) (five_of key.0 fits.five)

-- a dash lacks nothing but other marks
pub no_dash : (word : List ℕ) → lacks 45 word ≡ true → ¬ (word ≡ 45 ∷ [])
no_dash word lack is = true≢false (sym lack ∙ ap (lacks 45) is)

-- a dash spells nothing
pub dash_is_none : {X : Type 0} (Fits : X → Type 0) (text : X → List ℕ) → ((x : X) → Fits x → ¬ (text x ≡ 45 ∷ [])) → (word : List ℕ) → word ≡ 45 ∷ []
    → (given : Option X) → IfSome given Fits → word ≡ or_dash text given → None ≡ given
dash_is_none Fits text differs word dash None fits is = refl
dash_is_none Fits text differs word dash (Some x) fits is = absurd (differs x fits (sym is ∙ dash))

-- and another word spells something
pub word_is_some : {X : Type 0} (Fits : X → Type 0) (text : X → List ℕ) (word : List ℕ) (guess : X) → ¬ (word ≡ 45 ∷ [])
    → ((x : X) → Fits x → word ≡ text x → guess ≡ x) → (given : Option X) → IfSome given Fits → word ≡ or_dash text given → Some guess ≡ given
word_is_some Fits text word guess foreign each None fits is = absurd (foreign is)
word_is_some Fits text word guess foreign each (Some x) fits is = ap Some (each x fits is)

pub not_dash : (word : List ℕ) (answer : Bool) → IsTrue answer ↔ (word ≡ codes "-") → answer ≡ false → ¬ (word ≡ 45 ∷ [])
not_dash word answer tells foreign is = true≢false (sym (tells.1 is) ∙ foreign)

-- an end is no dash: an address stands before its mark
pub end_differs : (one : End) → ¬ (end_text one ≡ 45 ∷ [])
end_differs one is =
    no_dash (addr_text one.addr) (addr_lacks 45 refl one.addr)
    (sym (word_before 43 (end_text one) (addr_text one.addr) _ refl (addr_lacks 43 refl one.addr)) ∙ ap (before_first (λ byte. byte == 43)) is)
