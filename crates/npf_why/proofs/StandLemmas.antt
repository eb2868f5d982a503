-- Where the tokens that a parser is given stop, beside the candidate among them.
use Rattle.std.proofs.Common.{◌≡◌, ◌≢◌, ◌≤◌, ◌+◌, inl, inr, ℕ, suc, nat_lt, ◌==◌, not, Bool, true, false, List, [], ◌∷◌, ◌++◌, ◌||◌, MatchBool, length, All}
use Rattle.std.proofs.Common.{refl, sym, ap, subst, ◌∙◌, append_assoc, arith}
use Rattle.std.proofs.Common.{◌<◌, map, cond, get_or, take}
use Rattle.std.specs.{Prelude.⊤, List.prefix_len}
use Rattle.std.proofs.lemmas.Bool.{false≢true}
use Rattle.std.proofs.lemmas.List.{length-append, map-append, take_more, Elements.{All-cons, All-nil, All-head, All-tail}}
use Rattle.npf_types.specs.declared.span.Span.{Span}
use Rattle.npf_lexer.specs.declared.token.Token.{Token}
use Rattle.npf_lexer.specs.declared.token.TokenKind.{TokenKind}
use Rattle.npf_lexer.specs.declared.token.TokenKind.TheVariants as Kind
use Rattle.npf_lexer.specs.declared.token.Sign.TheVariants.{OpenParen}
use Rattle.npf_parser.specs.{Parse.{HasMeaning, HaltsAt, StopsAt}, Stmt.file}
use Rattle.npf_parser.proofs.{LineLemmas.file_advances, ParseLemmas.{one_place, not_both}}
use Rattle.npf_parser_values.specs.Token.{place_of}
use Rattle.npf_phrase.{specs.Grammar.loose, proofs.ReadingLemmas.and_true}
use Rattle.npf_why.specs.{declared.candidate.Candidate.Candidate, Candidate.candidate_kind}
use Rattle.npf_why.specs.Stand.{BeginsText, CanStand, CannotStand, HaltsWithin, HasLine, Passes, Stops, ThoseThatStand, is_behind, put, is_before, told_with, with_end, with_paren}

abbrev AllBehind : List Token → Type 0
AllBehind [] = ⊤
AllBehind (t ∷ ts) = (is_behind t.span ≡ true) × AllBehind ts

is_zero : (line : ℕ) → (line == 0) ≡ true → line ≡ 0
is_zero line is = grind arith

lacks_line : (line col : ℕ) → line ≢ 0 → is_behind (record { line = line; col = col; at = 0; len = 0 }) ≡ true → ⊥
lacks_line line col has behind = let both : ((line == 0) ≡ true) × (not (col == 1) ≡ true) = and_true behind in has (is_zero line both.0)

-- what halts behind the candidate has it in front
with_it : (front : List Token) (kind : TokenKind) (last fr at : List Token) → All HasLine front → front ++ put 1 kind ∷ last ≡ fr ++ at → is_behind (place_of at) ≡ true →
    (more : List Token) × (fr ≡ front ++ put 1 kind ∷ more)
with_it [] kind last [] at lines parts behind =
    let same : false ≡ true = ap (λ us. is_behind (place_of us)) parts ∙ behind in absurd (false≢true same)
with_it [] kind last (x ∷ fr) at lines parts behind =
    let same : put 1 kind ≡ x = cc in (fr, ap (λ u. u ∷ fr) (sym same))
with_it (t ∷ front) kind last [] at lines parts behind = absurd (lacks_line t.span.line t.span.col (All-head HasLine t front lines) (ap (λ us. is_behind (place_of us)) parts ∙ behind))
with_it (t ∷ front) kind last (x ∷ fr) at lines parts behind =
    let same : t ≡ x = cc in
    let others : front ++ put 1 kind ∷ last ≡ fr ++ at = cc in
    let it = with_it front kind last fr at (All-tail HasLine t front lines) others behind in
    (it.0, ap (λ u. u ∷ fr) (sym same) ∙ ap (λ us. t ∷ us) it.1)

-- what is left of tokens behind the candidate stands behind it
left_behind : (last fr at : List Token) → AllBehind last → last ≡ fr ++ at → is_behind (place_of at) ≡ true
left_behind [] [] at all parts = ap (λ us. is_behind (place_of us)) (sym parts)
left_behind (t ∷ last) [] at all parts = ap (λ us. is_behind (place_of us)) (sym parts) ∙ all.0
left_behind [] (x ∷ fr) at all parts = cc
left_behind (t ∷ last) (x ∷ fr) at all parts = let others : last ≡ fr ++ at = cc in left_behind last fr at all.1 others

-- what halts at the candidate or before it has no more in front
within : (front : List Token) (kind : TokenKind) (last fr at : List Token) → AllBehind last → front ++ put 1 kind ∷ last ≡ fr ++ at → is_behind (place_of at) ≡ false → length fr ≤ length front
within front kind last [] at all parts early = omega arith
within [] kind last (x ∷ fr) at all parts early =
    let others : last ≡ fr ++ at = cc in
    let same : false ≡ true = sym early ∙ left_behind last fr at all others in absurd (false≢true same)
within (t ∷ front) kind last (x ∷ fr) at all parts early =
    let others : front ++ put 1 kind ∷ last ≡ fr ++ at = cc in
    let fewer = within front kind last fr at all others early in omega (arith, fewer)

module _ (front : List Token) (kind : TokenKind) (last : List Token) where
  abbrev whole : List Token
  whole = front ++ put 1 kind ∷ last

  pub stops_within : AllBehind last → Stops whole → HaltsWithin front whole
  stops_within all (span, halts, stops, early) = record {
    span = span;
    halts = halts;
    stops = stops;
    early = within front kind last halts.halts.front halts.at all halts.halts.parts (ap is_behind (sym halts.place) ∙ early);
  }

  module _ (lines : All HasLine front) where
    halts_late : (fr at : List Token) → whole ≡ fr ++ at → is_behind (place_of at) ≡ true → length fr ≤ length front → ⊥
    halts_late fr at parts behind early =
        let it = with_it front kind last fr at lines parts behind in
        let count : length fr ≡ length front + length (put 1 kind ∷ it.0) = ap length it.1 ∙ length-append front (put 1 kind ∷ it.0) in
        omega (arith, early, count)

    pub passes_on : Passes whole → ¬ HaltsWithin front whole
    passes_on (inl means) it = not_both file file_advances whole it.span means it.halts
    passes_on (inr (span, halts, stops, behind)) it =
        halts_late it.halts.halts.front it.halts.at it.halts.halts.parts
        (ap is_behind (sym it.halts.place ∙ one_place file file_advances whole it.span span it.halts halts) ∙ behind) it.early

    pub begins_text : Passes whole → BeginsText (front ++ put 1 kind ∷ [])
    begins_text (inl means) = (last, inl (subst (HasMeaning file) (sym (append_assoc front (put 1 kind ∷ []) last)) means))
    begins_text (inr (span, halts, stops, behind)) =
        let it = with_it front kind last stops.front (stops.unfit ++ stops.behind) lines stops.parts (ap is_behind (sym stops.place) ∙ behind) in
        let more = stops.viable.0 in (
          it.0 ++ more,
          inr (subst (HasMeaning (loose file))
              (ap (λ us. us ++ more) it.1 ∙ append_assoc front (put 1 kind ∷ it.0) more ∙ sym (append_assoc front (put 1 kind ∷ []) (it.0 ++ more))) stops.viable.1),
        )

module _ (front : List Token) (kind : TokenKind) where
  joined : (ts : List Token) → ts ≡ front ++ put 1 kind ∷ [] → (last : List Token) → ts ++ last ≡ front ++ put 1 kind ∷ last
  joined ts is last = ap (λ us. us ++ last) is ∙ append_assoc front (put 1 kind ∷ []) last

  pub stands_alone : All HasLine front → Passes (with_end front kind) → CanStand front kind
  stands_alone lines passes = record { begins = begins_text front kind _ lines passes; passes = λ both. passes_on front kind _ lines passes both.0 }

  pub stands_called : All HasLine front → Passes (with_paren front kind) → CanStand front kind
  stands_called lines passes = record { begins = begins_text front kind _ lines passes; passes = λ both. passes_on front kind _ lines passes both.1 }

  pub halts_twice : Stops (with_end front kind) → Stops (with_paren front kind) → CannotStand front kind
  halts_twice one other = (stops_within front kind _ (refl, tt) one, stops_within front kind _ (refl, (refl, tt)) other)

  -- where they end, or go on with a parenthesis
  pub decided : (ts : List Token) → ts ≡ front ++ put 1 kind ∷ [] → All HasLine front → (alone called : Bool) →
      MatchBool alone (Passes (ts ++ put 2 Kind.End ∷ [])) (Stops (ts ++ put 2 Kind.End ∷ [])) →
      MatchBool called (Passes (ts ++ put 2 (Kind.Sign OpenParen) ∷ put 3 Kind.End ∷ [])) (Stops (ts ++ put 2 (Kind.Sign OpenParen) ∷ put 3 Kind.End ∷ [])) →
      MatchBool (alone || called) (CanStand front kind) (CannotStand front kind)
  decided ts is lines true called one other = stands_alone lines (subst Passes (joined ts is (put 2 Kind.End ∷ [])) one)
  decided ts is lines false true one other = stands_called lines (subst Passes (joined ts is (put 2 (Kind.Sign OpenParen) ∷ put 3 Kind.End ∷ [])) other)
  decided ts is lines false false one other =
      halts_twice (subst Stops (joined ts is (put 2 Kind.End ∷ [])) one) (subst Stops (joined ts is (put 2 (Kind.Sign OpenParen) ∷ put 3 Kind.End ∷ [])) other)

  -- the next of some kinds is told or not
  told_next : (kinds told : List TokenKind) → ThoseThatStand front kinds told → CanStand front kind → ThoseThatStand front (kinds ++ kind ∷ []) (told ++ kind ∷ [])
  told_next [] told is can = inl (can, [], ap (λ us. us ++ kind ∷ []) is, refl)
  told_next (k ∷ kinds) told (inl (stands, more, is, onward)) can = inl (stands, more ++ kind ∷ [], ap (λ us. us ++ kind ∷ []) is, told_next kinds more onward can)
  told_next (k ∷ kinds) told (inr (halts, onward)) can = inr (halts, told_next kinds told onward can)

  passed_over : (kinds told : List TokenKind) → ThoseThatStand front kinds told → CannotStand front kind → ThoseThatStand front (kinds ++ kind ∷ []) told
  passed_over [] told is cannot = inr (cannot, is)
  passed_over (k ∷ kinds) told (inl (stands, more, is, onward)) cannot = inl (stands, more, is, passed_over kinds more onward cannot)
  passed_over (k ∷ kinds) told (inr (halts, onward)) cannot = inr (halts, passed_over kinds told onward cannot)

  pub told_step : (stands : Bool) → MatchBool stands (CanStand front kind) (CannotStand front kind) → (kinds told : List TokenKind) → ThoseThatStand front kinds told →
      ThoseThatStand front (kinds ++ kind ∷ []) (told_with stands kind told)
  told_step true can kinds told is = told_next kinds told is can
  told_step false cannot kinds told is = passed_over kinds told is cannot

pub by_place : (tokens : List Token) (span : Span) (behind : Bool) → HaltsAt file tokens span → StopsAt file tokens span → is_behind span ≡ behind → MatchBool behind (Passes tokens) (Stops tokens)
by_place tokens span true halts stops is = inr (span, halts, stops, is)
by_place tokens span false halts stops is = (span, halts, stops, is)

-- the tokens of a text before a byte have lines
has_line : (at : ℕ) (t : Token) → is_before at t ≡ true → HasLine t
has_line at t is = let both : (nat_lt 0 t.span.line ≡ true) × (nat_lt t.span.at at ≡ true) = and_true is in λ none. let some = both.0 in grind arith

front_of_test : (at : ℕ) (t : Token) (n : ℕ) (ts : List Token) (b : Bool) → is_before at t ≡ b → All HasLine (take n ts) → All HasLine (take (cond b (1 + n) 0) (t ∷ ts))
front_of_test at t n ts true is rest = let on : 1 + n ≡ suc n = omega arith in subst (λ m. All HasLine (take m (t ∷ ts))) (sym on) (All-cons HasLine t (take n ts) (has_line at t is) rest)
front_of_test at t n ts false is rest = All-nil HasLine

pub front_lines : (at : ℕ) (tokens : List Token) → All HasLine (take (prefix_len (is_before at) tokens) tokens)
front_lines at [] = All-nil HasLine
front_lines at (t ∷ ts) = front_of_test at t (prefix_len (is_before at) ts) ts (is_before at t) refl (front_lines at ts)

-- the next of the candidates, in a loop over them
pub told_after : (front ts : List Token) → ts ≡ front → (cs : List Candidate) (i : ℕ) (d : Candidate) → i < length cs → (stands : Bool) →
    MatchBool stands (CanStand ts (candidate_kind (get_or cs i d))) (CannotStand ts (candidate_kind (get_or cs i d))) →
    (told new : List TokenKind) → new ≡ told_with stands (candidate_kind (get_or cs i d)) told → ThoseThatStand front (map candidate_kind (take i cs)) told →
    ThoseThatStand front (map candidate_kind (take (i + 1) cs)) new
told_after front ts same cs i d below stands can told new is so_far =
    let kind = candidate_kind (get_or cs i d) in
    let more : map candidate_kind (take (i + 1) cs) ≡ map candidate_kind (take i cs) ++ kind ∷ [] =
    ap (map candidate_kind) (take_more cs i d below) ∙ map-append candidate_kind (take i cs) (get_or cs i d ∷ []) in
    let here = subst (λ (us : List Token). MatchBool stands (CanStand us kind) (CannotStand us kind)) same can in
    let there = subst (ThoseThatStand front (map candidate_kind (take i cs) ++ kind ∷ [])) (sym is) (told_step front kind stands here (map candidate_kind (take i cs)) told so_far) in
    subst (λ kinds. ThoseThatStand front kinds new) (sym more) there
