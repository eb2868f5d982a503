-- The text of what was taken, and of one line more.
use Rattle.std.proofs.Common.{◌≡◌, ◌<◌, ◌≤◌, ◌+◌, ℕ, List, [], ◌∷◌, ◌++◌, length, refl, sym, ap, subst, ◌∙◌, append_assoc, append-nil, arith}
use Rattle.std.{specs.List.flat_map, proofs.lemmas.List.{length-append, Concat.flat_map-append}}
use Rattle.npf_types.specs.declared.name.Name.{Name}
use Rattle.npf_saved.specs.{declared.saved.Saved.Saved, File.{conn_lines, ended_line, name_lines, saved_text}, Spelling.{conn_line, head_line, if_line}}
use Rattle.npf_saved_file.specs.File.{IsFirstLine}

name_more : (names : List Name) (name : Name) → name_lines (names ++ name ∷ []) ≡ name_lines names ++ ended_line (if_line name)
name_more names name =
    flat_map-append (λ (n : Name). ended_line (if_line n)) names (name ∷ []) ∙ ap (λ last. name_lines names ++ last) (append-nil (ended_line (if_line name)))

conn_more : (conns : List Saved) (saved : Saved) → conn_lines (conns ++ saved ∷ []) ≡ conn_lines conns ++ ended_line (conn_line saved)
conn_more conns saved =
    flat_map-append (λ (s : Saved). ended_line (conn_line s)) conns (saved ∷ []) ∙ ap (λ last. conn_lines conns ++ last) (append-nil (ended_line (conn_line saved)))

-- three texts and a fourth
behind_three : (a b c d : List ℕ) → a ++ (b ++ (c ++ d)) ≡ (a ++ (b ++ c)) ++ d
behind_three a b c d = ap (λ rest. a ++ rest) (sym (append_assoc b c d)) ∙ sym (append_assoc a (b ++ c) d)

text_name : (names : List Name) (name : Name) → saved_text (names ++ name ∷ []) [] ≡ saved_text names [] ++ ended_line (if_line name)
text_name names name =
    ap (λ lines. ended_line head_line ++ lines)
    (append-nil (name_lines (names ++ name ∷ [])) ∙ name_more names name ∙ ap (λ lines. lines ++ ended_line (if_line name)) (sym (append-nil (name_lines names))))
    ∙ sym (append_assoc (ended_line head_line) (name_lines names ++ []) (ended_line (if_line name)))

text_conn : (names : List Name) (conns : List Saved) (saved : Saved) → saved_text names (conns ++ saved ∷ []) ≡ saved_text names conns ++ ended_line (conn_line saved)
text_conn names conns saved =
    ap (λ lines. ended_line head_line ++ (name_lines names ++ lines)) (conn_more conns saved)
    ∙ behind_three (ended_line head_line) (name_lines names) (conn_lines conns) (ended_line (conn_line saved))

-- a line goes from what is left to what was taken
pub onward : (text taken rest line behind : List ℕ) (more : List ℕ) → text ≡ taken ++ rest → IsFirstLine rest line behind → more ≡ taken ++ ended_line line
    → text ≡ more ++ behind
onward text taken rest line behind more is first goes =
    is ∙ ap (λ left. taken ++ left) first.spelled ∙ sym (append_assoc taken (ended_line line) behind) ∙ ap (λ front. front ++ behind) (sym goes)

pub onward_name : (text rest line behind : List ℕ) (names news : List Name) (conns others : List Saved) (name : Name) → text ≡ saved_text names conns ++ rest
    → IsFirstLine rest line behind → line ≡ if_line name → conns ≡ [] → news ≡ names ++ name ∷ [] → others ≡ conns → text ≡ saved_text news others ++ behind
onward_name text rest line behind names news conns others name is first spelled none pushed same =
    onward text (saved_text names conns) rest line behind (saved_text news others) is first
    (ap (λ (ns : List Name). saved_text ns others) pushed ∙ ap (saved_text (names ++ name ∷ [])) (same ∙ none) ∙ text_name names name
    ∙ ap (λ (cs : List Saved). saved_text names cs ++ ended_line (if_line name)) (sym none) ∙ ap (λ last. saved_text names conns ++ ended_line last) (sym spelled))

pub onward_conn : (text rest line behind : List ℕ) (names news : List Name) (conns others : List Saved) (saved : Saved) → text ≡ saved_text names conns ++ rest
    → IsFirstLine rest line behind → line ≡ conn_line saved → news ≡ names → others ≡ conns ++ saved ∷ [] → text ≡ saved_text news others ++ behind
onward_conn text rest line behind names news conns others saved is first spelled same pushed =
    onward text (saved_text names conns) rest line behind (saved_text news others) is first
    (ap (λ (ns : List Name). saved_text ns others) same ∙ ap (saved_text names) pushed ∙ text_conn names conns saved
    ∙ ap (λ last. saved_text names conns ++ ended_line last) (sym spelled))

-- there are at most as many interfaces as bytes
names_short : (names : List Name) → length names ≤ length (name_lines names)
names_short [] = omega arith
names_short (name ∷ names) =
    let rest = names_short names in
    let long = length-append (ended_line (if_line name)) (name_lines names) in
    let one = length-append (if_line name) (10 ∷ []) in
    omega (arith, rest, long, one)

pub names_within : (names : List Name) (conns : List Saved) → length names ≤ length (saved_text names conns)
names_within names conns =
    let some = names_short names in
    let whole = length-append (ended_line head_line) (name_lines names ++ conn_lines conns) in
    let lines = length-append (name_lines names) (conn_lines conns) in
    omega (arith, some, whole, lines)
