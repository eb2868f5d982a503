-- Lists of what is read: in braces, with commas, or a line each.
use Rattle.std.proofs.Common.{◌≡◌, inl, inr, true, false, Option, Some, List, [], ◌∷◌, ◌++◌, flat_map, codes, refl, sym, ap, subst, ◌∙◌, append_assoc}
use Rattle.std.{proofs.lemmas.{Grind.flat_map-append, List.Elements.{All-head, All-tail}}, specs.List.All}
use Rattle.npf_lexer.specs.declared.token.Sign.TheVariants as Signs
use Rattle.npf_lexer.specs.declared.token.{Token.Token, TokenKind.TokenKind}
use Rattle.npf_lexer.specs.declared.token.TokenKind.TheVariants as Kind
use Rattle.npf_phrase.{specs.Grammar.{Grammar, meaning, making, both, any_number, preceded, separated, list_of, those_there}, proofs.TestLemmas.advances}
use Rattle.npf_show.specs.Piece.{Piece, glued}
use Rattle.npf_show.specs.Piece as Pieces
use Rattle.npf_show_tokens.specs.Tokens.{kind_of_piece, kinds_of_pieces}
use Rattle.npf_show_meaning.proofs.Goes.{Goes, Sees, HeadIn, Anything, both_goes, making_goes, preceded_goes, none_goes, more_goes}

-- the kinds of pieces before others
abbrev pub onto : List Piece → List TokenKind → List TokenKind
onto pieces to = kinds_of_pieces pieces ++ to

pub onto_both : (x y : List Piece) (to : List TokenKind) → onto (x ++ y) to ≡ onto x (onto y to)
onto_both x y to = ap (λ ks. ks ++ to) (flat_map-append kind_of_piece x y) ∙ append_assoc (kinds_of_pieces x) (kinds_of_pieces y) to

-- lists whose elements are of a kind with each other
abbrev pub Each : {A B : Type 0} → (A → B → Type 0) → List A → List B → Type 0
Each R [] [] = Unit {0}
Each R (a ∷ vals) (b ∷ bs) = R a b × Each R vals bs
Each R _ _ = ⊥

abbrev pub comma : TokenKind
comma = Kind.Sign Signs.Comma

-- one at least, with commas between them
module _ {A B S : Type 0} (separator : Grammar Token S) (g : Grammar Token A) (R : A → B → Type 0) (Q : B → Type 0) (pieces : B → List Piece) (stops : List TokenKind) where
  abbrev next : Grammar Token (Option A)
  next = preceded separator (making (λ _ a. Some a) g)

  abbrev following : List B → List Piece
  following xs = flat_map (λ y. glued (Pieces.Sign (codes ",")) ++ pieces y) xs

  abbrev Stops : List TokenKind → Type 0
  Stops to = HeadIn (comma ∷ stops) to

  module _
      (goes : (b : B) → Q b → (to : List TokenKind) → Stops to → Goes g (λ a. R a b) (onto (pieces b) to) to)
      (parts : (b : B) → Q b → (to : List TokenKind) → Goes separator Anything (comma ∷ onto (pieces b) to) (onto (pieces b) to))
      (is : advances next ≡ true)
      (full : (meaning next).nullable ≡ false)
      (begins : (ks : List TokenKind) → Sees true (meaning next).starts (comma ∷ ks))
      (lacks : (to : List TokenKind) → HeadIn stops to → Sees false (meaning next).starts to) where
    stops_behind : (xs : List B) (to : List TokenKind) → HeadIn stops to → Stops (onto (following xs) to)
    stops_behind [] to here = inr here
    stops_behind (x ∷ xs) to here = inl (onto (pieces x ++ following xs) to, refl)

    others_go : (xs : List B) → All Q xs → (to : List TokenKind) → HeadIn stops to → Goes (any_number next) (λ os. Each R (those_there os) xs) (onto (following xs) to) to
    others_go [] all to here = none_goes next is full (λ os. Each R (those_there os) []) to (lacks to here) tt
    others_go (x ∷ xs) all to here =
        let q = All-head Q x xs all in
        let behind = onto (following xs) to in
        subst (λ from. Goes (any_number next) (λ os. Each R (those_there os) (x ∷ xs)) from to) (ap (λ ks. comma ∷ ks) (sym (onto_both (pieces x) (following xs) to)))
        (more_goes next is full (λ o. (a : A) × (o ≡ Some a) × R a x) (λ os. Each R (those_there os) xs) (λ os. Each R (those_there os) (x ∷ xs))
        (comma ∷ onto (pieces x) behind) behind to (begins (onto (pieces x) behind))
        (preceded_goes separator (making (λ _ a. Some a) g) Anything (λ o. (a : A) × (o ≡ Some a) × R a x) (comma ∷ onto (pieces x) behind) (onto (pieces x) behind) behind (parts x q behind)
        (making_goes (λ _ a. Some a) g (λ a. R a x) (λ o. (a : A) × (o ≡ Some a) × R a x) (onto (pieces x) behind) behind (λ ts a r. (a, refl, r)) (goes x q behind (stops_behind xs to here))))
        (others_go xs (All-tail Q x xs all) to here)
        (λ o os one rest. subst (λ o. Each R (those_there (o ∷ os)) (x ∷ xs)) (sym one.1) (one.2, rest)))

    pub list_goes : (x : B) (xs : List B) → All Q (x ∷ xs) → (to : List TokenKind) → HeadIn stops to
        → Goes (list_of separator g) (λ vals. Each R vals (x ∷ xs)) (onto (pieces x ++ following xs) to) to
    list_goes x xs all to here =
        let behind = onto (following xs) to in
        subst (λ from. Goes (list_of separator g) (λ vals. Each R vals (x ∷ xs)) from to) (sym (onto_both (pieces x) (following xs) to))
        (making_goes (λ _ items. those_there items) (separated separator (making (λ _ a. Some a) g))
        (λ os. Each R (those_there os) (x ∷ xs)) (λ vals. Each R vals (x ∷ xs)) (onto (pieces x) behind) to (λ ts os r. r)
        (making_goes (λ _ ab. ab.0 ∷ ab.1) (both (making (λ _ a. Some a) g) (any_number next)) (λ ab. ((a : A) × (ab.0 ≡ Some a) × R a x) ×
        Each R (those_there ab.1) xs) (λ os. Each R (those_there os) (x ∷ xs)) (onto (pieces x) behind) to
        (λ ts ab r. subst (λ o. Each R (those_there (o ∷ ab.1)) (x ∷ xs)) (sym r.0.1) (r.0.2, r.1))
        (both_goes (making (λ _ a. Some a) g) (any_number next) (λ o. (a : A) × (o ≡ Some a) × R a x) (λ os. Each R (those_there os) xs) (onto (pieces x) behind) behind to
        (making_goes (λ _ a. Some a) g (λ a. R a x) (λ o. (a : A) × (o ≡ Some a) × R a x) (onto (pieces x) behind) behind
        (λ ts a r. (a, refl, r)) (goes x (All-head Q x xs all) behind (stops_behind xs to here)))
        (others_go xs (All-tail Q x xs all) to here))))
