-- A text is one thing, and a reader that goes on from what begins at each place finds it.
use Rattle.std.proofs.Common.{◌≡◌, ℕ, ◌==◌, Bool, true, false, MatchBool, Ok, Err, List, [], ◌∷◌, ◌++◌, drop, take, refl, sym, ap, subst, ◌∙◌, append_assoc}
use Rattle.npf_lexer.specs.declared.byte_class.ByteClass.{ByteClass, TheVariants.{Blank, LineFeed, Semicolon, Backslash, Comment, Quote, Dollar, Run, Other}}
use Rattle.npf_faults.specs.declared.fault.ConfFault.{ConfFault}
use Rattle.npf_lexer.specs.declared.{front.Front.{Front, TheVariants.{End, Skipped, Found, Faulty}}, place.TextPlace.TextPlace, run.RunKind.RunKind as RunType}
use Rattle.npf_lexer.specs.{declared.token.{Sign.TheVariants.Colon, Token.Token}, ByteClass.byte_class, Front.{Begins, BeginsWith, run_front, token_front}}
use Rattle.npf_lexer.specs.declared.token.TokenKind.TheVariants as Kind
use Rattle.npf_lexer.specs.{Place.text_start, Run.{ReadsRun, run_len}, Lexer.{Lexed, Lexes, end, skip, token, fault, onto, end_token, IsLexed}}
use Rattle.npf_types.specs.Reading.{IsOnly}
use Rattle.npf_lexer.proofs.RunLemmas.{run_same}

run_front_same : (p : TextPlace) (text : List ℕ) (x y : Front) (colon : Bool) →
    MatchBool colon (x ≡ token_front (Kind.Sign Colon) 1 p) ((run : RunType) × ReadsRun (take (run_len text) text) run × (x ≡ run_front (run_len text) p run)) →
    MatchBool colon (y ≡ token_front (Kind.Sign Colon) 1 p) ((run : RunType) × ReadsRun (take (run_len text) text) run × (y ≡ run_front (run_len text) p run)) → x ≡ y
run_front_same p text x y true h k = h ∙ sym k
run_front_same p text x y false (run, is, x_is) (other, is', y_is) = x_is ∙ ap (λ r. run_front (run_len text) p r) (run_same (take (run_len text) text) run other is is') ∙ sym y_is

class_same : (class : ByteClass) (p : TextPlace) (text : List ℕ) (x y : Front) → BeginsWith class p text x → BeginsWith class p text y → x ≡ y
class_same Run p text x y h k = run_front_same p text x y (run_len text == 0) h k
class_same Blank p text x y h k = h ∙ sym k
class_same LineFeed p text x y h k = h ∙ sym k
class_same Semicolon p text x y h k = h ∙ sym k
class_same Backslash p text x y h k = h ∙ sym k
class_same Comment p text x y h k = h ∙ sym k
class_same Quote p text x y h k = h ∙ sym k
class_same Dollar p text x y h k = h ∙ sym k
class_same Other p text x y h k = h ∙ sym k

-- one thing begins at a place
begins_same : (p : TextPlace) (text : List ℕ) (x y : Front) → Begins p text x → Begins p text y → x ≡ y
begins_same p [] x y h k = h ∙ sym k
begins_same p (b ∷ bs) x y h k = class_same (byte_class b) p (b ∷ bs) x y h k

-- what the text is, by what begins at the place
abbrev Goes : TextPlace → List ℕ → Lexed → Front → Type 0
Goes p text lexed End = lexed ≡ Ok (end_token p ∷ [])
Goes p text lexed (Skipped n q) = Lexes q (drop n text) lexed
Goes p text lexed (Found t n q) = (behind : Lexed) × Lexes q (drop n text) behind × (lexed ≡ onto t behind)
Goes p text lexed (Faulty f) = lexed ≡ Err f

goes : (p : TextPlace) (text : List ℕ) (lexed : Lexed) (front : Front) → Begins p text front → Lexes p text lexed → Goes p text lexed front
goes _ _ _ front is (end p text b) = subst (Goes p text (Ok (end_token p ∷ []))) (begins_same p text End front b is) refl
goes _ _ _ front is (skip p text n q x b h) = subst (Goes p text x) (begins_same p text (Skipped n q) front b is) h
goes _ _ _ front is (token p text t n q x b h) = subst (Goes p text (onto t x)) (begins_same p text (Found t n q) front b is) (x, h, refl)
goes _ _ _ front is (fault p text f b) = subst (Goes p text (Err f)) (begins_same p text (Faulty f) front b is) refl

-- a text is one thing
lexes_same : (p : TextPlace) (text : List ℕ) (x y : Lexed) → Lexes p text x → Lexes p text y → x ≡ y
lexes_same _ _ _ y (end p text b) k = sym (goes p text y End b k)
lexes_same _ _ _ y (skip p text n q x b h) k = lexes_same q (drop n text) x y h (goes p text y (Skipped n q) b k)
lexes_same _ _ _ y (token p text t n q x b h) k =
    let g = goes p text y (Found t n q) b k in
    ap (onto t) (lexes_same q (drop n text) x g.0 h g.1) ∙ sym g.2
lexes_same _ _ _ y (fault p text f b) k = sym (goes p text y (Faulty f) b k)

-- tokens before what is read behind them
abbrev pub all_onto : List Token → Lexed → Lexed
all_onto done (Ok ts) = Ok (done ++ ts)
all_onto _ (Err f) = Err f

-- how far a reader has come: `done` was read of the text, and `rest` is left from a place on
pub record IsLexedSoFar (text : List ℕ) (done : List Token) (p : TextPlace) (rest : List ℕ) : Type 0 where
  pub onward : (lexed : Lexed) → Lexes p rest lexed → IsLexed text (all_onto done lexed)

all_onto_nil : (lexed : Lexed) → lexed ≡ all_onto [] lexed
all_onto_nil (Ok ts) = refl
all_onto_nil (Err f) = refl

all_onto_one : (done : List Token) (t : Token) (lexed : Lexed) → all_onto done (onto t lexed) ≡ all_onto (done ++ t ∷ []) lexed
all_onto_one done t (Ok ts) = ap Ok (sym (append_assoc done (t ∷ []) ts))
all_onto_one done t (Err f) = refl

pub so_far_begins : (text : List ℕ) → IsLexedSoFar text [] text_start text
so_far_begins text = record { onward = λ lexed h. subst (IsLexed text) (all_onto_nil lexed) h }

pub so_far_skips : (text : List ℕ) (done : List Token) (p : TextPlace) (rest : List ℕ) (n : ℕ) (q : TextPlace) →
    IsLexedSoFar text done p rest → Begins p rest (Skipped n q) → IsLexedSoFar text done q (drop n rest)
so_far_skips text done p rest n q so_far b = record { onward = λ lexed h. so_far.onward lexed (skip p rest n q lexed b h) }

pub so_far_finds : (text : List ℕ) (done : List Token) (p : TextPlace) (rest : List ℕ) (t : Token) (n : ℕ) (q : TextPlace) →
    IsLexedSoFar text done p rest → Begins p rest (Found t n q) → IsLexedSoFar text (done ++ t ∷ []) q (drop n rest)
so_far_finds text done p rest t n q so_far b = record {
  onward = λ lexed h. subst (IsLexed text) (all_onto_one done t lexed) (so_far.onward (onto t lexed) (token p rest t n q lexed b h));
}

only : (text : List ℕ) (lexed : Lexed) → IsLexed text lexed → IsOnly IsLexed text lexed
only text lexed h = record { reads = h; only = λ other k. lexes_same text_start text other lexed k h }

pub so_far_ends : (text : List ℕ) (done : List Token) (p : TextPlace) (rest : List ℕ) → IsLexedSoFar text done p rest → Begins p rest End → IsOnly IsLexed text (Ok (done ++ end_token p ∷ []))
so_far_ends text done p rest so_far b = only text (Ok (done ++ end_token p ∷ [])) (so_far.onward (Ok (end_token p ∷ [])) (end p rest b))

pub so_far_fails : (text : List ℕ) (done : List Token) (p : TextPlace) (rest : List ℕ) (f : ConfFault) → IsLexedSoFar text done p rest → Begins p rest (Faulty f) → IsOnly IsLexed text (Err f)
so_far_fails text done p rest f so_far b = only text (Err f) (so_far.onward (Err f) (fault p rest f b))
