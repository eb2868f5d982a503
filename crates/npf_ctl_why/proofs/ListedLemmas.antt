-- A line of items, put together from its parts.
use Rattle.std.proofs.Common.{◌≡◌, ℕ, List, ◌∷◌, ◌++◌, codes, map, sym, ap, subst, ◌∙◌, append_assoc}
use Rattle.std.specs.List.{flat_map}
use Rattle.npf_why.specs.{declared.candidate.Candidate.Candidate, Candidate.candidate_kind}
use Rattle.npf_ctl_why.specs.Listed.{behind_comma, candidate_text, told_text}

pub told_line : (old one two three new : List ℕ) (first : Candidate) (others told : List Candidate) → told ≡ first ∷ others → one ≡ old ++ codes "  could stand here: " →
    two ≡ one ++ candidate_text (candidate_kind first) → three ≡ two ++ flat_map behind_comma (map candidate_text (map candidate_kind others)) → new ≡ three ++ codes "\n" →
    new ≡ old ++ told_text (map candidate_kind told)
told_line old one two three new first others told are at_one at_two at_three at_new =
    let lead = codes "  could stand here: " in
    let item = candidate_text (candidate_kind first) in
    let more = flat_map behind_comma (map candidate_text (map candidate_kind others)) in
    let end = codes "\n" in
    subst (λ (cs : List Candidate). new ≡ old ++ told_text (map candidate_kind cs)) (sym are)
    (at_new ∙ ap (λ us. us ++ end) (at_three ∙ ap (λ us. us ++ more) (at_two ∙ ap (λ us. us ++ item) at_one)) ∙ append_assoc ((old ++ lead) ++ item) more end
    ∙ append_assoc (old ++ lead) item (more ++ end) ∙ append_assoc old lead (item ++ (more ++ end)))
