-- Connections that rise by their forward keys.
use Rattle.std.proofs.Common.{◌≡◌, ◌<◌, ◌≤◌, ◌+◌, ◌-◌, ℕ, Bool, true, false, List, [], ◌∷◌, ◌++◌, length, get_or, refl, sym, ap, subst, ◌∙◌, inl, inr, arith}
use Rattle.std.specs.{Prelude.{◌⊎◌, Some, slice_get}, Cmp.Lexicographic.slice_cmp, List.AllPairs, Ordering.nat_cmp, declared.cmp.Ordering.TheVariants.Less}
use Rattle.std.proofs.lemmas.{List.{get_or_append_left, get_or_push, get_or_default, length-append}, Option.{get_or_from_slice_get, slice_get_within}}
use Rattle.std.proofs.lemmas.List.Quantifiers.{all_pairs_push}
use Rattle.npf_types.specs.contracts.key.KeyOrd.TheImpl.Laws.{total-law}
use Rattle.npf_saved.specs.declared.saved.Saved.{Saved}
use Rattle.npf_saved_file.specs.Conns.{AreRising, ComesBefore}

before_trans : (one other last : Saved) → ComesBefore one other → ComesBefore other last → ComesBefore one last
before_trans one other last = total-law.trans one.forward other.forward last.forward

pub rises_alone : (conns : List Saved) (saved : Saved) → length conns ≡ 0 → AreRising (conns ++ saved ∷ [])
rises_alone [] saved none = λ i j d before within. absurd (omega (arith, before, within))
rises_alone (one ∷ conns) saved none = absurd (omega (arith, none))

near_or_last : (k n : ℕ) → k < n → (k ≡ n - 1) ⊎ (k < n - 1)
near_or_last k n below = grind arith

-- what is behind the last is behind all
pub rises_behind : (conns : List Saved) (last saved : Saved) → AreRising conns → 0 < length conns → last ≡ get_or conns (length conns - 1) last
    → ComesBefore last saved → AreRising (conns ++ saved ∷ [])
rises_behind conns last saved all some is next = all_pairs_push ComesBefore conns saved all (λ k d within. at k d within (near_or_last k (length conns) within)) where
  end : (d : Saved) → get_or conns (length conns - 1) d ≡ last
  end d = let within : length conns - 1 < length conns = omega (arith, some) in get_or_default conns (length conns - 1) d last within ∙ sym is

  at : (k : ℕ) (d : Saved) → k < length conns → (k ≡ length conns - 1) ⊎ (k < length conns - 1) → ComesBefore (get_or conns k d) saved
  at k d within (inl here) = subst (λ (one : Saved). ComesBefore one saved) (sym (ap (λ n. get_or conns n d) here ∙ end d)) next
  at k d within (inr there) =
      let far : length conns - 1 < length conns = omega (arith, some) in
      before_trans (get_or conns k d) last saved (subst (ComesBefore (get_or conns k d)) (end d) (all k (length conns - 1) d there far)) next

-- and what rises is behind the last
pub last_before : (conns : List Saved) (last saved : Saved) → AreRising (conns ++ saved ∷ []) → 0 < length conns
    → last ≡ get_or conns (length conns - 1) last → ComesBefore last saved
last_before conns last saved all some is =
    let at = length conns - 1 in
    let within : at < length conns = omega (arith, some) in
    let long = length-append conns (saved ∷ []) in
    let far : length conns < length (conns ++ saved ∷ []) = omega (arith, long) in
    subst (λ (one : Saved). ComesBefore one saved) (get_or_append_left conns (saved ∷ []) last at within ∙ sym is)
    (subst (ComesBefore (get_or (conns ++ saved ∷ []) at last)) (get_or_push conns saved last (length conns) refl) (all at (length conns) last within far))

-- the same where the last is read
pub rises_after : (conns : List Saved) (last saved : Saved) → AreRising conns → slice_get conns (length conns - 1) ≡ Some last → ComesBefore last saved
    → AreRising (conns ++ saved ∷ [])
rises_after conns last saved all found =
    let within = slice_get_within conns (length conns - 1) last found in
    rises_behind conns last saved all (omega (arith, within)) (sym (get_or_from_slice_get conns (length conns - 1) last last found))

pub before_after : (conns : List Saved) (last saved : Saved) → AreRising (conns ++ saved ∷ []) → slice_get conns (length conns - 1) ≡ Some last → ComesBefore last saved
before_after conns last saved all found =
    let within = slice_get_within conns (length conns - 1) last found in
    last_before conns last saved all (omega (arith, within)) (sym (get_or_from_slice_get conns (length conns - 1) last last found))
