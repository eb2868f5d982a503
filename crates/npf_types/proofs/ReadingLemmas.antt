-- How a reader goes on, whatever it reads.
use Rattle.std.proofs.Common.{◌≡◌, List, [], ◌++◌, Option, Some, None, refl, sym, ap, subst, ◌∙◌, append_assoc, append-nil}
use Rattle.npf_types.specs.Reading.{IsOnly, IsReading, IsSoFar}

-- two relations that say the same have the same reading
pub reads_alike : {X X' Y : Type 0} (R : X → Y → Type 0) (S : X' → Y → Type 0) (x : X) (x' : X')
    → ((y : Y) → R x y → S x' y) → ((y : Y) → S x' y → R x y) → (r : Option Y) → IsReading R x r → IsReading S x' r
reads_alike R S x x' to from None none = λ y h. none y (from y h)
reads_alike R S x x' to from (Some y) h = record { reads = to y h.reads; only = λ other k. h.only other (from other k) }

-- at the beginning nothing was read
pub IsSoFar-begins : {X Y : Type 0} (Rel : List X → List Y → Type 0) (all : List X) → IsSoFar Rel all [] all
IsSoFar-begins Rel all = record { onward = λ more h. h; back = λ ys h. (ys, refl, h) }

-- a piece more was read
pub IsSoFar-then : {X Y : Type 0} (Rel : List X → List Y → Type 0) (all : List X) (done : List Y) (now : List X) (piece : List Y) (rest : List X)
    → IsSoFar Rel all done now → IsSoFar Rel now piece rest → IsSoFar Rel all (done ++ piece) rest
IsSoFar-then {X} {Y} Rel all done now piece rest first then = record {
  onward = λ more h. subst (Rel all) (sym (append_assoc done piece more)) (first.onward (piece ++ more) (then.onward more h));
  back = λ ys h.
      let m = first.back ys h in
      let n = then.back m.0 m.2 in
      (n.0, m.1 ∙ ap (λ zs. done ++ zs) n.1 ∙ sym (append_assoc done piece n.0), n.2);
}

-- where nothing is left but what is read as nothing, all that was read is the one reading
pub IsSoFar-ends : {X Y : Type 0} (Rel : List X → List Y → Type 0) (all : List X) (done : List Y) (rest : List X)
    → IsSoFar Rel all done rest → Rel rest [] → ((more : List Y) → Rel rest more → more ≡ []) → IsOnly Rel all done
IsSoFar-ends {X} {Y} Rel all done rest so_far empty only = record {
  reads = subst (Rel all) (append-nil done) (so_far.onward [] empty);
  only = λ other h.
      let m = so_far.back other h in
      m.1 ∙ ap (λ zs. done ++ zs) (only m.0 m.2) ∙ append-nil done;
}
