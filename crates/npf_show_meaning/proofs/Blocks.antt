-- Blocks of lines, read again.
use Rattle.std.proofs.Common.{◌≡◌, Bool, true, false, Option, Some, None, List, [], ◌∷◌, flat_map, refl, sym, subst, ◌∙◌}
use Rattle.std.{proofs.lemmas.List.Elements.{All-head, All-tail}, specs.List.All}
use Rattle.npf_lexer.specs.declared.token.{Token.Token, TokenKind.TokenKind}
use Rattle.npf_lexer.specs.declared.token.TokenKind.TheVariants as Kind
use Rattle.npf_phrase.{specs.Grammar.{Grammar, meaning, any_number, preceded, unless, block_of, those_there}, proofs.TestLemmas.advances}
use Rattle.npf_parser_values.specs.Token.{separator}
use Rattle.npf_show.specs.Piece.{Piece}
use Rattle.npf_show_meaning.proofs.Goes.{Goes, Sees, Anything, token_goes, make, turn, pick_first, pick_second, pure_goes, preceded_goes, none_goes, more_goes}
use Rattle.npf_show_meaning.proofs.Lists.{onto, onto_both, Each}

abbrev pub feed : TokenKind
feed = Kind.LineFeed

feed_goes : (ks : List TokenKind) → Goes separator Anything (feed ∷ ks) ks
feed_goes ks = token_goes _ _ Anything feed ks (λ s. tt) (λ s. refl) (λ s. tt)

module _ {A B : Type 0} (g : Grammar Token A) (closes : Option Token → Bool) (R : A → B → Type 0) (Q : B → Type 0) (within row : B → List Piece) where
  abbrev entry : Grammar Token (Option A)
  entry = unless closes g

  abbrev next : Grammar Token (Option A)
  next = preceded separator entry

  abbrev rows : List B → List Piece
  rows xs = flat_map row xs

  module _
      (row_is : (b : B) (ks : List TokenKind) → onto (row b) ks ≡ onto (within b) (feed ∷ ks))
      (goes : (b : B) → Q b → (ks : List TokenKind) → Goes g (λ a. R a b) (onto (within b) (feed ∷ ks)) (feed ∷ ks))
      (stands : (b : B) → Q b → (ks : List TokenKind) → Sees false closes (onto (within b) (feed ∷ ks)))
      (is : advances next ≡ true)
      (full : (meaning next).nullable ≡ false)
      (feeds : (ks : List TokenKind) → Sees true (meaning next).starts (feed ∷ ks))
      (closed : (ks : List TokenKind) → Sees true closes (feed ∷ ks))
      (to : List TokenKind)
      (ends : Sees true closes to)
      (over : Sees false (meaning next).starts to) where
    -- an item, or none
    abbrev IsThere : B → Option A → Type 0
    IsThere b o = (a : A) × (o ≡ Some a) × R a b

    there : (b : B) → Q b → (ks : List TokenKind) → Goes entry (IsThere b) (onto (within b) (feed ∷ ks)) (feed ∷ ks)
    there b q ks = pick_second (stands b q ks) (make (λ ts a r. (a, refl, r)) (goes b q ks))

    nothing : (ks : List TokenKind) → Sees true closes ks → Goes entry (λ o. o ≡ None) ks ks
    nothing ks here = pick_first here (pure_goes None (λ o. o ≡ None) ks refl)

    rows_are : (x : B) (xs : List B) → onto (rows (x ∷ xs)) to ≡ onto (within x) (feed ∷ onto (rows xs) to)
    rows_are x xs = onto_both (row x) (rows xs) to ∙ row_is x (onto (rows xs) to)

    following : (xs : List B) → All Q xs → Goes (any_number next) (λ os. Each R (those_there os) xs) (feed ∷ onto (rows xs) to) to
    following [] all =
        more_goes next is full (λ o. o ≡ None) (λ os. Each R (those_there os) []) (λ os. Each R (those_there os) []) (feed ∷ to) to to (feeds to)
        (preceded_goes separator entry Anything (λ o. o ≡ None) (feed ∷ to) to to (feed_goes to) (nothing to ends))
        (none_goes next is full (λ os. Each R (those_there os) []) to over tt)
        (λ o os none each. subst (λ o. Each R (those_there (o ∷ os)) []) (sym none) each)
    following (x ∷ xs) all =
        let behind = feed ∷ onto (rows xs) to in
        let from = onto (within x) behind in
        let q = All-head Q x xs all in
        subst (λ ks. Goes (any_number next) (λ os. Each R (those_there os) (x ∷ xs)) (feed ∷ ks) to) (sym (rows_are x xs))
        (more_goes next is full (IsThere x) (λ os. Each R (those_there os) xs) (λ os. Each R (those_there os) (x ∷ xs)) (feed ∷ from) behind to (feeds from)
        (preceded_goes separator entry Anything (IsThere x) (feed ∷ from) from behind (feed_goes from) (there x q (onto (rows xs) to)))
        (following xs (All-tail Q x xs all))
        (λ o os one each. subst (λ o. Each R (those_there (o ∷ os)) (x ∷ xs)) (sym one.1) (one.2, each)))

    -- a block that begins with the end of its opening line
    pub opened_goes : (xs : List B) → All Q xs → Goes (block_of separator closes g) (λ items. Each R items xs) (feed ∷ onto (rows xs) to) to
    opened_goes xs all =
        let from = feed ∷ onto (rows xs) to in
        make {P = λ os. Each R (those_there os) xs} (λ ts os each. each)
        (make {P = λ ab. (ab.0 ≡ None) × Each R (those_there ab.1) xs} (λ ts ab each. subst (λ o. Each R (those_there (o ∷ ab.1)) xs) (sym each.0) each.1)
        (turn (nothing from (closed (onto (rows xs) to))) (following xs all)))

    -- and one that begins with its first line
    pub bare_goes : (xs : List B) → All Q xs → Goes (block_of separator closes g) (λ items. Each R items xs) (onto (rows xs) to) to
    bare_goes [] all =
        make {P = λ os. Each R (those_there os) []} (λ ts os each. each)
        (make {P = λ ab. (ab.0 ≡ None) × Each R (those_there ab.1) []} (λ ts ab each. subst (λ o. Each R (those_there (o ∷ ab.1)) []) (sym each.0) each.1)
        (turn (nothing to ends) (none_goes next is full (λ os. Each R (those_there os) []) to over tt)))
    bare_goes (x ∷ xs) all =
        subst (λ ks. Goes (block_of separator closes g) (λ items. Each R items (x ∷ xs)) ks to) (sym (rows_are x xs))
        (make {P = λ os. Each R (those_there os) (x ∷ xs)} (λ ts os each. each)
        (make {P = λ ab. IsThere x ab.0 × Each R (those_there ab.1) xs} (λ ts ab each. subst (λ o. Each R (those_there (o ∷ ab.1)) (x ∷ xs)) (sym each.0.1) (each.0.2, each.1))
        (turn (there x (All-head Q x xs all) (onto (rows xs) to)) (following xs (All-tail Q x xs all)))))
