-- Bytes that were given part by part, and written so far.
use Rattle.std.{proofs.{Common.{◌≡◌, ℕ, List, [], ◌++◌, Option, sym, ap, ◌∙◌, append_assoc}, KnownBytes.Appends-trans}, specs.Io.KnownBytes.Appends}
use Rattle.npf_outside.specs.Parts.{GivesPart}

-- of all bytes those in front of `rest` were written
pub record IsWrittenSoFar (first now : Option (List ℕ)) (all rest : List ℕ) : Type 0 where
  pub said : List ℕ
  pub parts : all ≡ said ++ rest
  pub appends : Appends first now said

-- one more part was written, by way of a page that was empty
pub one_more : (first now new : Option (List ℕ)) (all rest left before page : List ℕ) → IsWrittenSoFar first now all rest → GivesPart rest left before page → before ≡ []
    → Appends now new page → IsWrittenSoFar first new all left
one_more first now new all rest left before page so_far gives empty put = record {
  said = so_far.said ++ page;
  parts = so_far.parts ∙ ap (λ r. so_far.said ++ r) (gives.gives ∙ ap (λ b. (b ++ gives.part) ++ left) (sym empty) ∙ ap (λ p. p ++ left) (sym gives.appends))
      ∙ sym (append_assoc so_far.said page left);
  appends = Appends-trans first now new so_far.said page so_far.appends put;
}
