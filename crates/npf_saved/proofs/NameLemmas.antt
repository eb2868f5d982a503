-- A name is read from its own bytes, and from a dash none.
use Rattle.std.proofs.Common.{◌≡◌, ◌≤◌, ◌-◌, ◌+◌, ◌↔◌, ℕ, Bool, true, false, Option, Some, None, IfSome, IsSome, IsTrue, List, [], ◌∷◌, length, take, drop, replicate, refl, sym, ap, subst, ◌∙◌, arith}
use Rattle.std.proofs.lemmas.List.{length-drop, length-replicate, length-take-le}
use Rattle.npf_types.{specs.{declared.name.Name.Name, Name.name_bytes, NameText.is_name, Named.named}, proofs.NameLemmas.named_is}
use Rattle.npf_saved.specs.{Fields.FitsName, Spelling.or_dash}

-- a name is the one of its bytes
pub named_of_bytes : (name : Name) → FitsName name → name ≡ named (name_bytes name)
named_of_bytes name fits =
    let short : name.len ≤ length name.bytes = omega (arith, name.short, fits) in
    let long : length (take name.len name.bytes) ≡ name.len = length-take-le name.len name.bytes short in
    named_is name (name_bytes name) name.named (sym long) (ap (λ n. take n name.bytes) long)
    (ap (λ n. drop n name.bytes) long ∙ name.padded ∙ ap (λ n. replicate (15 - n) 0) (sym long))

pub name_guessed : (word : List ℕ) (guess : Option Name) (log : Option Name) → IfSome log FitsName → word ≡ or_dash name_bytes log
    → IsSome guess ↔ IsTrue (is_name word) → IfSome guess (λ name. name ≡ named word) → guess ≡ log
name_guessed word None None fits is tells value = refl
name_guessed word (Some name) None fits is tells value = let yes = ap is_name (sym is) ∙ tells.0 refl in cc yes
name_guessed word None (Some name) fits is tells value = let yes = tells.1 (ap is_name is ∙ name.named) in cc yes
name_guessed word (Some guess) (Some name) fits is tells value = ap Some (value ∙ ap named is ∙ sym (named_of_bytes name fits))
