-- Whatever a text is the file of, it begins with what was taken.
use Rattle.std.proofs.Common.{◌≡◌, ◌≢◌, ◌<◌, ◌≤◌, ◌+◌, ℕ, List, [], ◌∷◌, ◌++◌, length, get_or, refl, sym, ap, subst, ◌∙◌, append_assoc, append-nil, inl, inr, arith}
use Rattle.std.{specs.{Prelude.◌⊎◌, List.{All, AllPairs, flat_map}}, proofs.lemmas.List.{append_cancel_left, get_or_append_left, length-append}}
use Rattle.std.proofs.lemmas.List.{Concat.flat_map-append, Elements.{All-contains, Contains-append_right}}
use Rattle.npf_types.specs.{declared.name.Name.Name, Reading.IsOnly}
use Rattle.npf_saved.specs.{declared.saved.Saved.Saved, Fields.{FitsName, FitsSaved}}
use Rattle.npf_saved.specs.{File.{IsConnLine, IsIfLine, conn_lines, ended_line, name_lines, saved_text}, Spelling.{conn_line, head_line, if_line}}
use Rattle.npf_saved_file.specs.{Conns.{AreDistinct, AreSavedConns, ComesBefore, HasKeysOfItsWays, saved_keys}, File.{IsFirstLine, IsNoSavedFile, IsSavedFile}}
use Rattle.npf_saved_file.{specs.Lines.{IsBadSavedLine, IsNoInterface}, proofs.{FeedLemmas.{conn_lacks, ends_there, if_lacks}, KeyLemmas.distinct_front}}
use Rattle.npf_saved_file.proofs.LineLemmas.{one_line}

-- these interfaces and connections begin with those, and the rest of them is the rest of the text
pub record Follows (names : List Name) (conns : List Saved) (rest : List ℕ) (others : List Name) (all : List Saved) : Type 0 where
  pub more : List Name
  pub last : List Saved
  pub named : others ≡ names ++ more
  pub listed : all ≡ conns ++ last
  pub left : rest ≡ name_lines more ++ conn_lines last
  pub order : (conns ≡ []) ⊎ (more ≡ [])

abbrev pub IsSoFar : List ℕ → List Name → List Saved → List ℕ → Type 0
IsSoFar text names conns rest = (others : List Name) (all : List Saved) → IsSavedFile text others all → Follows names conns rest others all

pub so_far_head : (text rest : List ℕ) → text ≡ ended_line head_line ++ rest → IsSoFar text [] [] rest
so_far_head text rest is others all file = record {
  more = others;
  last = all;
  named = refl;
  listed = refl;
  left = append_cancel_left (ended_line head_line) rest (name_lines others ++ conn_lines all) (sym is ∙ file.spelled);
  order = inl refl;
}

-- where the rest begins with an interface's line, or with a connection's
name_first : (name : Name) (more : List Name) (last : List Saved) (rest : List ℕ) → rest ≡ name_lines (name ∷ more) ++ conn_lines last
    → IsFirstLine rest (if_line name) (name_lines more ++ conn_lines last)
name_first name more last rest is =
    ends_there rest (if_line name) (name_lines more ++ conn_lines last) (is ∙ append_assoc (ended_line (if_line name)) (name_lines more) (conn_lines last)) (if_lacks name)

conn_first : (saved : Saved) (last : List Saved) (rest : List ℕ) → FitsSaved saved → rest ≡ conn_lines (saved ∷ last) → IsFirstLine rest (conn_line saved) (conn_lines last)
conn_first saved last rest fits is = ends_there rest (conn_line saved) (conn_lines last) is (conn_lacks saved fits)

-- what is behind one first line is behind the other
one_behind : (text line behind other rest : List ℕ) → IsFirstLine text line behind → IsFirstLine text other rest → rest ≡ behind
one_behind text line behind other rest one two =
    append_cancel_left (ended_line line) rest behind
    (ap (λ l. ended_line l ++ rest) (sym (one_line text line behind other rest one two)) ∙ sym two.spelled ∙ one.spelled)

has_line : (text line behind : List ℕ) → IsFirstLine text line behind → text ≢ []
has_line text line behind first none =
    let long : length text ≡ length line + 1 + length behind =
    ap length first.spelled ∙ length-append (ended_line line) behind ∙ ap (λ n. n + length behind) (length-append line (10 ∷ [])) in
    let short = ap length none in
    absurd (omega (arith, long, short))

-- a front of good connections is good
all_front : (P : Saved → Type 0) (conns more : List Saved) → All P (conns ++ more) → All P conns
all_front P conns more all k d within =
    let long = length-append conns more in
    subst P (get_or_append_left conns more d k within) (all k d (omega (arith, long, within)))

rising_front : (conns more : List Saved) → AllPairs ComesBefore (conns ++ more) → AllPairs ComesBefore conns
rising_front conns more all i j d near within =
    let long = length-append conns more in
    let there : i < length conns = omega (arith, near, within) in
    subst (λ (one : Saved). ComesBefore one (get_or conns j d)) (get_or_append_left conns more d i there)
    (subst (ComesBefore (get_or (conns ++ more) i d)) (get_or_append_left conns more d j within) (all i j d near (omega (arith, long, within))))

good_front : (conns more : List Saved) → AreSavedConns (conns ++ more) → AreSavedConns conns
good_front conns more good = record {
  fit = all_front FitsSaved conns more good.fit;
  placed = all_front HasKeysOfItsWays conns more good.placed;
  rising = rising_front conns more good.rising;
  distinct = distinct_front (flat_map saved_keys conns) (flat_map saved_keys more) (subst AreDistinct (flat_map-append saved_keys conns more) good.distinct);
}

last_fits : (conns : List Saved) (saved : Saved) (last : List Saved) → AreSavedConns (conns ++ saved ∷ last) → FitsSaved saved
last_fits conns saved last good =
    All-contains FitsSaved (conns ++ saved ∷ last) saved good.fit (Contains-append_right conns (saved ∷ last) saved (0, omega arith, refl))

name_fits : (names : List Name) (name : Name) (more : List Name) → All FitsName (names ++ name ∷ more) → FitsName name
name_fits names name more all = All-contains FitsName (names ++ name ∷ more) name all (Contains-append_right names (name ∷ more) name (0, omega arith, refl))

-- no line is both
not_both : (name : Name) (saved : Saved) → ¬ (if_line name ≡ conn_line saved)
not_both name saved same = let first : 105 ≡ 99 = ap (λ (line : List ℕ). get_or line 0 0) same in absurd (omega (arith, first))

module _ (names : List Name) (conns : List Saved) (rest line behind : List ℕ) (others : List Name) (all : List Saved) (first : IsFirstLine rest line behind)
    (named : All FitsName others) (good : AreSavedConns all) where
  -- the line is the next of them
  pub data IsNext : Type 0 where
    interface : (name : Name) (more : List Name) (last : List Saved) → others ≡ names ++ name ∷ more → all ≡ conns ++ last → conns ≡ [] → IsIfLine line name
        → behind ≡ name_lines more ++ conn_lines last → IsNext
    connection : (saved : Saved) (last : List Saved) → others ≡ names → all ≡ conns ++ saved ∷ last → IsConnLine line saved → behind ≡ conn_lines last → IsNext

  next_is : Follows names conns rest others all → IsNext
  next_is follows = by follows.more follows.last follows.named follows.listed follows.left follows.order where
    by : (more : List Name) (last : List Saved) → others ≡ names ++ more → all ≡ conns ++ last → rest ≡ name_lines more ++ conn_lines last → (conns ≡ []) ⊎ (more ≡ []) → IsNext
    by [] [] _ _ left _ = absurd (has_line rest line behind first left)
    by [] (saved ∷ last) is listed left _ =
        let fits = last_fits conns saved last (subst AreSavedConns listed good) in
        let there = conn_first saved last rest fits left in
        IsNext.connection saved last (is ∙ append-nil names) listed
        (record { spelled = sym (one_line rest line behind (conn_line saved) (conn_lines last) first there); fits = fits })
        (sym (one_behind rest line behind (conn_line saved) (conn_lines last) first there))
    by (name ∷ more) last is listed left (inl none) =
        let fits = name_fits names name more (subst (All FitsName) is named) in
        let there = name_first name more last rest left in
        IsNext.interface name more last is listed none
        (record { spelled = sym (one_line rest line behind (if_line name) (name_lines more ++ conn_lines last) first there); fits = fits })
        (sym (one_behind rest line behind (if_line name) (name_lines more ++ conn_lines last) first there))
    by (name ∷ more) last is listed left (inr none) = absurd cc

  -- so it was taken as that
  pub after_name : Follows names conns rest others all → (name : Name) → conns ≡ [] → IsOnly IsIfLine line name → Follows (names ++ name ∷ []) conns behind others all
  after_name follows name none is = by (next_is follows) where
    by : IsNext → Follows (names ++ name ∷ []) conns behind others all
    by (IsNext.interface other more last named listed _ if left) = record {
      more = more;
      last = last;
      named = named ∙ ap (λ (n : Name). names ++ n ∷ more) (is.only other if) ∙ sym (append_assoc names (name ∷ []) more);
      listed = listed;
      left = left;
      order = inl none;
    }
    by (IsNext.connection saved last _ _ conn _) = absurd (not_both name saved (sym is.reads.spelled ∙ conn.spelled))

  pub after_conn : Follows names conns rest others all → (saved : Saved) → IsNoInterface conns line → IsOnly IsConnLine line saved
      → Follows names (conns ++ saved ∷ []) behind others all
  after_conn follows saved no_name is = by (next_is follows) where
    by : IsNext → Follows names (conns ++ saved ∷ []) behind others all
    by (IsNext.interface name more last _ _ none if _) = absurd (no_name none name if)
    by (IsNext.connection other last named listed conn left) = record {
      more = [];
      last = last;
      named = named ∙ sym (append-nil names);
      listed = listed ∙ ap (λ (s : Saved). conns ++ s ∷ last) (is.only other conn) ∙ sym (append_assoc conns (saved ∷ []) last);
      left = left;
      order = inr refl;
    }

  pub not_bad : Follows names conns rest others all → ¬ IsBadSavedLine conns line
  not_bad follows bad = by (next_is follows) where
    by : IsNext → ⊥
    by (IsNext.interface name more last _ _ none if _) = bad.interface none name if
    by (IsNext.connection saved last _ listed conn _) =
        bad.connection saved conn (good_front (conns ++ saved ∷ []) last (subst AreSavedConns (listed ∙ sym (append_assoc conns (saved ∷ []) last)) good))

-- what has no line is a file's rest no more
pub nothing_left : (names : List Name) (conns : List Saved) (others : List Name) (all : List Saved) → Follows names conns [] others all → (others ≡ names) × (all ≡ conns)
nothing_left names conns others all follows = by follows.more follows.last follows.named follows.listed follows.left where
  by : (more : List Name) (last : List Saved) → others ≡ names ++ more → all ≡ conns ++ last → [] ≡ name_lines more ++ conn_lines last → (others ≡ names) × (all ≡ conns)
  by [] [] named listed left = (named ∙ append-nil names, listed ∙ append-nil conns)
  by [] (saved ∷ last) named listed left = absurd (empty (conn_line saved) (conn_lines last) left) where
    empty : (line more : List ℕ) → ¬ ([] ≡ ended_line line ++ more)
    empty [] more is = absurd cc
    empty (x ∷ line) more is = absurd cc
  by (name ∷ more) last named listed left = absurd cc

-- nor is one that no line feed ends
pub no_file : (text : List ℕ) (names : List Name) (conns : List Saved) (rest : List ℕ) → IsSoFar text names conns rest → rest ≢ []
    → ((line behind : List ℕ) → ¬ IsFirstLine rest line behind) → IsNoSavedFile text
no_file text names conns rest so_far some none others all file = by follows.more follows.last follows.listed follows.left where
  follows : Follows names conns rest others all
  follows = so_far others all file

  by : (more : List Name) (last : List Saved) → all ≡ conns ++ last → rest ≡ name_lines more ++ conn_lines last → ⊥
  by [] [] listed left = some left
  by [] (saved ∷ last) listed left =
      none (conn_line saved) (conn_lines last) (conn_first saved last rest (last_fits conns saved last (subst AreSavedConns listed file.good)) left)
  by (name ∷ more) last listed left = none (if_line name) (name_lines more ++ conn_lines last) (name_first name more last rest left)

pub no_file_behind : (text : List ℕ) (names : List Name) (conns : List Saved) (rest line behind : List ℕ) → IsSoFar text names conns rest → IsFirstLine rest line behind
    → IsBadSavedLine conns line → IsNoSavedFile text
no_file_behind text names conns rest line behind so_far first bad others all file =
    not_bad names conns rest line behind others all first file.named file.good (so_far others all file) bad

pub no_file_without_head : (text : List ℕ) → ((behind : List ℕ) → ¬ IsFirstLine text head_line behind) → IsNoSavedFile text
no_file_without_head text none names conns file =
    none (name_lines names ++ conn_lines conns) (ends_there text head_line (name_lines names ++ conn_lines conns) file.spelled refl)
