-- Lists of values, in braces where they aren't of one.
use Rattle.std.proofs.{Common.{◌≡◌, inl, Bool, true, false, ◌||◌, Option, Some, List, [], ◌∷◌, codes, refl, sym, ap, subst}, lemmas.List.Elements.All-head}
use Rattle.std.specs.List.{All}
use Rattle.npf_types.specs.declared.span.Span.{Span}
use Rattle.npf_lexer.specs.declared.token.Sign.TheVariants as Signs
use Rattle.npf_lexer.specs.declared.token.{Token.Token, TokenKind.TokenKind}
use Rattle.npf_lexer.specs.declared.token.TokenKind.TheVariants as Kind
use Rattle.npf_syntax.specs.declared.value.{Value.Value, ValueList.ValueList}
use Rattle.npf_phrase.specs.Grammar.{meaning, making, pure, preceded, terminated, ◌or◌}
use Rattle.npf_parser_values.specs.Token.{sign, quoted, line_feed, spaced, span_of}
use Rattle.npf_parser_values.specs.Value.{number_value, address_value, table_value, function_value, function, iface, written, value, listed_values, values_inside, value_list}
use Rattle.npf_show.specs.Piece.{Piece, comma_list, list_pieces}
use Rattle.npf_show_meaning.proofs.Goes.{Goes, Sees, HeadIn, Anything, at, sees_first, sees_none, making_goes, preceded_goes, terminated_goes, first_goes, second_goes, sign_goes}
use Rattle.npf_show_meaning.proofs.{Lists.{onto, onto_both, comma, Each, list_goes}, Values.{Behind, spaced_goes}}

-- what a value begins with: no brace, no line feed, and not `any`
pub record HasHead (ks : List TokenKind) : Type 0 where
  pub kind : TokenKind
  pub rest : List TokenKind
  pub is : ks ≡ kind ∷ rest
  pub feed : (s : Span) → (meaning line_feed).starts (Some (at kind s)) ≡ false
  pub opening : (s : Span) → (meaning (sign Signs.OpenBrace)).starts (Some (at kind s)) ≡ false
  pub closing : (s : Span) → (meaning (sign Signs.CloseBrace)).starts (Some (at kind s)) ≡ false
  pub any : (s : Span) → (meaning (quoted (codes "any"))).starts (Some (at kind s)) ≡ false
  pub exclamation : (s : Span) → (meaning (sign Signs.Exclamation)).starts (Some (at kind s)) ≡ false
  pub port : (s : Span) → (meaning (quoted (codes "port"))).starts (Some (at kind s)) ≡ false

abbrev pub close : TokenKind
close = Kind.Sign Signs.CloseBrace

module _ {A : Type 0} (Q : A → Type 0) (pieces : A → List Piece) (heads : (a : A) → Q a → (to : List TokenKind) → HasHead (onto (pieces a) to)) where
  -- the head of one value or of a list
  pub list_head : (x : A) (xs : List A) → All Q (x ∷ xs) → (to : List TokenKind) → (test : Option Token → Bool)
      → ((ks : List TokenKind) (head : HasHead ks) (s : Span) → test (Some (at head.kind s)) ≡ false) → ((s : Span) → test (Some (at (Kind.Sign Signs.OpenBrace) s)) ≡ false)
      → Sees false test (onto (list_pieces pieces (x ∷ xs)) to)
  list_head x [] all to test alone opened =
      let head = heads x (All-head Q x [] all) to in
      subst (Sees false test) (sym head.is) (sees_first test false head.kind head.rest (alone _ head))
  list_head x (y ∷ xs) all to test alone opened = sees_first test false (Kind.Sign Signs.OpenBrace) _ opened

module _ {A : Type 0} (role : _) (R : Value → A → Type 0) (Q : A → Type 0) (pieces : A → List Piece)
    (goes : (inside : Bool) (a : A) → Q a → (to : List TokenKind) → Behind inside to → Goes (value role inside) (λ v. R v a) (onto (pieces a) to) to)
    (heads : (a : A) → Q a → (to : List TokenKind) → HasHead (onto (pieces a) to)) where
  separates : (a : A) → Q a → (to : List TokenKind) → Goes (spaced true (sign Signs.Comma)) Anything (comma ∷ onto (pieces a) to) (onto (pieces a) to)
  separates a q to =
      let head = heads a q to in
      spaced_goes true (sign Signs.Comma) Anything (comma ∷ onto (pieces a) to) (onto (pieces a) to)
      (subst (Sees false (meaning line_feed).starts) (sym head.is) (sees_first (meaning line_feed).starts false head.kind head.rest head.feed)) (sign_goes Signs.Comma (onto (pieces a) to))

  listed_goes : (x : A) (xs : List A) → All Q (x ∷ xs) → (to : List TokenKind) → HeadIn (close ∷ []) to
      → Goes (listed_values role) (λ vs. Each R vs (x ∷ xs)) (onto (comma_list pieces (x ∷ xs)) to) to
  unfolding listed_values value written number_value address_value function_value function iface table_value
  listed_goes x xs all to here =
      list_goes (spaced true (sign Signs.Comma)) (value role true) R Q pieces (close ∷ []) (λ a q to stops. goes true a q to stops) separates refl refl
      (λ ks. sees_first _ true comma ks (λ s. refl)) (λ to here. sees_none _ (close ∷ []) to (λ s. refl) here) x xs all to here

  abbrev IsListed : List A → ValueList → Type 0
  IsListed xs list = Each R list.values xs

  -- the values between braces
  braces_go : (x y : A) (xs : List A) → All Q (x ∷ y ∷ xs) → (to : List TokenKind) → Goes (value_list role) (IsListed (x ∷ y ∷ xs)) (onto (list_pieces pieces (x ∷ y ∷ xs)) to) to
  unfolding value_list
  braces_go x y xs all to =
      let elements = x ∷ y ∷ xs in
      let ended = close ∷ to in
      let inside = onto (comma_list pieces elements) ended in
      let opened = Kind.Sign Signs.OpenBrace ∷ inside in
      let P : List Value → Type 0 = λ vs. Each R vs elements in
      let head = subst HasHead (sym (onto_both (pieces x) _ ended)) (heads x (All-head Q x (y ∷ xs) all) _) in
      let no : (test : _) → ((s : Span) → test (Some (at head.kind s)) ≡ false) →
      Sees false test inside = λ test is. subst (Sees false test) (sym head.is) (sees_first test false head.kind head.rest is) in
      let within = terminated (values_inside role) (sign Signs.CloseBrace) in
      subst (λ from. Goes (value_list role) (IsListed elements) (Kind.Sign Signs.OpenBrace ∷ from) to) (sym (onto_both (comma_list pieces elements) _ to))
      (making_goes (λ ts values. record { values = values; span = span_of ts }) (preceded (spaced true (sign Signs.OpenBrace)) within) P (IsListed elements) opened to (λ ts vs each. each)
      (preceded_goes (spaced true (sign Signs.OpenBrace)) within Anything P opened inside to
      (spaced_goes true (sign Signs.OpenBrace) Anything opened inside (no (meaning line_feed).starts head.feed) (sign_goes Signs.OpenBrace inside))
      (terminated_goes (values_inside role) (sign Signs.CloseBrace) P Anything inside ended to
      (second_goes (meaning (sign Signs.CloseBrace)).starts (pure []) (listed_values role) P inside ended (no (meaning (sign Signs.CloseBrace)).starts head.closing)
      (listed_goes x (y ∷ xs) all ended (inl (to, refl))))
      (sign_goes Signs.CloseBrace to))))

  -- one value stands for itself
  module _ {B : Type 0} (P : List A → B → Type 0) (fl : List Token → ValueList → B) (fo : List Token → Value → B)
      (many : (ts : List Token) (list : ValueList) (x : A) (xs : List A) → IsListed (x ∷ xs) list → P (x ∷ xs) (fl ts list))
      (one : (ts : List Token) (v : Value) (x : A) → R v x → P (x ∷ []) (fo ts v)) where
    pub either_goes : (x : A) (xs : List A) → All Q (x ∷ xs) → (to : List TokenKind) → Behind false to
        → Goes (making fl (value_list role) or making fo (value role false)) (P (x ∷ xs)) (onto (list_pieces pieces (x ∷ xs)) to) to
    unfolding value_list
    either_goes x [] all to here =
        let q = All-head Q x [] all in
        let head = heads x q to in
        let from = onto (pieces x) to in
        second_goes (meaning (making fl (value_list role))).starts (making fl (value_list role)) (making fo (value role false)) (P (x ∷ [])) from to
        (subst (Sees false (meaning (making fl (value_list role))).starts) (sym head.is)
        (sees_first (meaning (making fl (value_list role))).starts false head.kind head.rest (λ s. ap (λ b. (b || false) || false) (head.opening s))))
        (making_goes fo (value role false) (λ v. R v x) (P (x ∷ [])) from to (λ ts v r. one ts v x r) (goes false x q to here))
    either_goes x (y ∷ xs) all to here =
        let elements = x ∷ y ∷ xs in
        let from = onto (list_pieces pieces elements) to in
        first_goes (meaning (making fl (value_list role))).starts (making fl (value_list role)) (making fo (value role false)) (P elements) from to
        (sees_first (meaning (making fl (value_list role))).starts true (Kind.Sign Signs.OpenBrace) _ (λ s. refl))
        (making_goes fl (value_list role) (IsListed elements) (P elements) from to (λ ts list r. many ts list x (y ∷ xs) r) (braces_go x y xs all to))
