-- What a phrase says of a whole list of tokens: what stands at its front, or where it stops.
use Rattle.std.specs.Prelude.{◌≡◌, List, ◌++◌}
use Rattle.npf_phrase.specs.Phrase.{Phrase, head}

-- the tokens begin with this, and these are left
pub record StandsFirst {T A : Type 0} (p : Phrase T A) (ts : List T) (a : A) (rest : List T) : Type 0 where
  pub front : List T
  pub parts : ts ≡ front ++ rest
  pub is : p.Is front a (head rest)

-- the tokens stop going on at these
pub record Stopped {T A : Type 0} (p : Phrase T A) (ts at : List T) : Type 0 where
  pub front : List T
  pub unfit : List T
  pub behind : List T
  pub parts : ts ≡ front ++ at
  pub place : at ≡ unfit ++ behind
  pub halts : p.Halts front unfit (head behind)
