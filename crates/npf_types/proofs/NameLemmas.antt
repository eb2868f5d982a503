-- Two names are one where their lengths and bytes are, and the name of some bytes is the one that has them.
use Rattle.std.proofs.Common.{◌≡◌, ◌≤◌, ◌-◌, ℕ, Bool, true, false, IsTrue, List, ◌++◌, length, take, drop, replicate, refl, sym, ap, ◌∙◌}
use mathlib.Core.HLevel.{is_prop→PathP}
use Rattle.std.proofs.lemmas.List.{take-append-drop}
use Rattle.npf_types.specs.{declared.name.Name.Name, contracts.name.Name.{short-found, named-found, padded-found}, NameText.is_name, Named.{named, name_where}}

pub Name-same : (p q : Name) → p.len ≡ q.len → p.bytes ≡ q.bytes → p ≡ q
Name-same p q l b =
    let short = is_prop→PathP (λ i. l i ≤ 15) (λ i. short-found (l i) (b i)) p.short q.short in
    let named = is_prop→PathP (λ i. IsTrue (is_name (take (l i) (b i)))) (λ i. named-found (l i) (b i) (short i)) p.named q.named in
    λ i. record {
      len = l i;
      bytes = b i;
      short = short i;
      named = named i;
      padded = is_prop→PathP (λ j. drop (l j) (b j) ≡ replicate (15 - l j) 0) (λ j. padded-found (l j) (b j) (short j) (named j)) p.padded q.padded i;
    }

pub named_is : (name : Name) (text : List ℕ) → is_name text ≡ true → name.len ≡ length text → take (length text) name.bytes ≡ text
    → drop (length text) name.bytes ≡ replicate (15 - length text) 0 → name ≡ named text
named_is name text is long front rest = by (is_name text) refl is where
  by : (answer : Bool) (told : is_name text ≡ answer) → answer ≡ true → name ≡ name_where text answer told
  by true told _ = Name-same name (name_where text true told) long
      (sym (take-append-drop (length text) name.bytes) ∙ ap (λ taken. taken ++ drop (length text) name.bytes) front ∙ ap (λ left. text ++ left) rest)
  by false told never = cc
