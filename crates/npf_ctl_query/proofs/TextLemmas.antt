-- The lines of rules, one after the other.
use Rattle.std.proofs.Common.{◌≡◌, ℕ, zero, suc, ◌+◌, ◌<◌, ◌≤◌, ◌++◌, List, [], ◌∷◌, Option, Some, None, length, get_or, drop, refl, sym, ap, ◌∙◌, append_assoc, arith}
use Rattle.std.proofs.lemmas.List.{append-nil}
use Rattle.npf_model.specs.declared.{iface.Iface.Iface, model.Model.Model}
use Rattle.npf_products.specs.declared.packet.CellPacket.{CellPacket}
use Rattle.npf_ctl_query.specs.QueryText.{decider_line, decider_lines}

one_dropped : {X : Type 0} (xs : List X) (i : ℕ) (d : X) → i < length xs → drop i xs ≡ get_or xs i d ∷ drop (suc i) xs
one_dropped [] i d low = absurd (omega arith)
one_dropped (x ∷ xs) zero d low = refl
one_dropped (x ∷ xs) (suc i) d low = one_dropped xs i d (omega arith)

all_dropped : {X : Type 0} (xs : List X) (i : ℕ) → length xs ≤ i → drop i xs ≡ []
all_dropped [] zero past = refl
all_dropped [] (suc i) past = refl
all_dropped (x ∷ xs) zero past = absurd (omega arith)
all_dropped (x ∷ xs) (suc i) past = all_dropped xs i (omega arith)

module _ (ifaces : List Iface) (model : Model) (rules : List (Option CellPacket)) (i : ℕ) where
  -- one rule more was told
  pub lines_more : (found : Option CellPacket) (whole old new : List ℕ) → i < length rules → found ≡ get_or rules i None
      → whole ≡ old ++ decider_lines ifaces model i (drop i rules) → new ≡ old ++ decider_line ifaces model i found
      → whole ≡ new ++ decider_lines ifaces model (i + 1) (drop (i + 1) rules)
  lines_more found whole old new low is before told =
      let next : suc i ≡ i + 1 = omega arith in
      before
      ∙ ap (λ rest. old ++ decider_lines ifaces model i rest) (one_dropped rules i None low)
      ∙ ap (λ one. old ++ (decider_line ifaces model i one ++ decider_lines ifaces model (i + 1) (drop (suc i) rules))) (sym is)
      ∙ ap (λ n. old ++ (decider_line ifaces model i found ++ decider_lines ifaces model (i + 1) (drop n rules))) next
      ∙ sym (append_assoc old (decider_line ifaces model i found) (decider_lines ifaces model (i + 1) (drop (i + 1) rules)))
      ∙ ap (λ text. text ++ decider_lines ifaces model (i + 1) (drop (i + 1) rules)) (sym told)

  pub lines_done : (whole old : List ℕ) → length rules ≤ i → whole ≡ old ++ decider_lines ifaces model i (drop i rules) → old ≡ whole
  lines_done whole old past before =
      sym (before ∙ ap (λ rest. old ++ decider_lines ifaces model i rest) (all_dropped rules i past) ∙ append-nil old)
