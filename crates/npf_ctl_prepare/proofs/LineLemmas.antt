-- What is known of the lines of a script.
use Rattle.std.proofs.Common.{◌≡◌, ◌≤◌, ◌<◌, ◌+◌, ◌∙◌, ℕ, Bool, true, false, cond, ◌||◌, Option, Some, None, IfSome, Vec, Global, option_map, Ok, List}
use Rattle.std.{proofs.Common.{[], ◌∷◌, ◌++◌, All, length, drop, get_or, refl, sym, subst, ap, arith, true≢false}, specs.{List.list_any, Str.bytes_eq}}
use Rattle.std.proofs.lemmas.{List.{drop_more, Elements.{All-append, All-cons, All-nil, All-weaker}}, Bool.le-leb, Slice.Eq.bytes_eq-Decides}
use Rattle.std.proofs.lemmas.List.Folds.{list_any-append}
use Rattle.npf_types.specs.{declared.{limits.TheConstants.MAX_INTERFACES, name.Name.Name}, Name.name_bytes}
use Rattle.npf_model.specs.{declared.iface.Iface.Iface, Numbering.{is_named, number_of_place}, Verdict.first_where}
use Rattle.npf_ctl_script.specs.{declared.script.ScriptLine.ScriptLine, Arguments.IsForm, Lines.{AreRead, nothing, skipped, told}}
use Rattle.npf_ctl_script.specs.declared.script.ScriptLine.TheVariants as Said
use Rattle.npf_ctl_schedule.specs.Schedule.{run_interfaces, unnumbered, with_interface}
use Rattle.npf_ctl_arrivals.specs.Within.{IsInterfaceNumber}
use Rattle.npf_table.specs.TableFile.{lines as text_lines}
use Rattle.npf_ctl_input.specs.Source.{Alone, ReadsEither, ReadsSource, Scripted, alone, lines_of_source, scripted}
use Rattle.npf_ctl_input.specs.declared.tap.NamedTap.{NamedTap}
use Rattle.npf_ctl_prepare.specs.{Captures.interface_id, Known.{NamesKnownInterface, NamesTextFile}, View.{source_ordered, source_with}}
use Rattle.npf_ctl_prepare.specs.declared.orders.Orders.{Orders}

-- a line that has its form names files by text
form_names : (line : List ℕ) (said : ScriptLine) → IsForm line said → NamesTextFile said
form_names line (Said.Capture name dir file) form = form.arguments.quoted.utf8
form_names line (Said.Reload file) form = form.arguments.utf8
form_names line said form = tt

pub read_names : (all : List (List ℕ)) (read : List (ℕ × ScriptLine)) → AreRead all read → All (λ line. NamesTextFile line.1) read
read_names _ _ nothing = All-nil (λ (line : ℕ × ScriptLine). NamesTextFile line.1)
read_names _ _ (skipped all line read good skip) = read_names all read good
read_names _ _ (told all line read said good kept next) =
    let Named : ℕ × ScriptLine → Type 0 = λ line. NamesTextFile line.1 in
    All-append Named read ((length all + 1, said) ∷ []) (read_names all read good)
    (All-cons Named (length all + 1, said) [] (form_names line said next.form) (All-nil Named))

abbrev Lists : List Iface → Name → Type 0
Lists ifaces name = list_any (is_named name) ifaces ≡ true

-- a place at which the test holds, of those counted from n
abbrev FoundFrom : {X : Type 0} → (X → Bool) → ℕ → List X → Option ℕ → Type 0
FoundFrom test n xs answer = (place : ℕ) × (answer ≡ Some place) × (n ≤ place) × (place < n + length xs)

first_or : {X : Type 0} (test : X → Bool) (n : ℕ) (x : X) (xs : List X) (rest : Option ℕ) → (list_any test xs ≡ true → FoundFrom test (n + 1) xs rest) →
    (here : Bool) → (here || list_any test xs) ≡ true → FoundFrom test n (x ∷ xs) (cond here (Some n) rest)
first_or test n x xs rest behind true is = (n, refl, omega arith, omega arith)
first_or test n x xs rest behind false is =
    let found = behind is in
    (found.0, found.1, omega (arith, found.2), omega (arith, found.3))

first_in : {X : Type 0} (test : X → Bool) (n : ℕ) (xs : List X) → list_any test xs ≡ true → FoundFrom test n xs (first_where test n xs)
first_in test n [] is = absurd (true≢false (sym is))
first_in test n (x ∷ xs) is = first_or test n x xs (first_where test (n + 1) xs) (first_in test (n + 1) xs) (test x) is

some_number : (ifaces : List Iface) (place : ℕ) → length ifaces ≤ MAX_INTERFACES → 1 ≤ place → place < 1 + length ifaces →
    number_of_place (Some place) ≡ place
some_number ifaces place few low high = ap (λ b. cond b place 0) (le-leb place MAX_INTERFACES (omega (arith, few, high)))

-- a name that is listed has the number of one of the interfaces
listed_is_one : (ifaces : List Iface) (name : Name) → length ifaces ≤ MAX_INTERFACES → Lists ifaces name → IsInterfaceNumber (length ifaces) (interface_id ifaces name)
listed_is_one ifaces name few lists =
    let found = first_in (is_named name) 1 ifaces lists in
    let number : number_of_place (first_where (is_named name) 1 ifaces) ≡ found.0 =
    ap number_of_place found.1 ∙ some_number ifaces found.0 few found.2 found.3 in
    record {
      low = subst (λ n. 1 ≤ n) (sym number) found.2;
      high = subst (λ n. n ≤ length ifaces) (sym number) (omega (arith, found.3));
    }

more_list : (ifaces more : List Iface) (name : Name) → Lists ifaces name → Lists (ifaces ++ more) name
more_list ifaces more name lists = list_any-append (is_named name) ifaces more ∙ ap (λ b. b || list_any (is_named name) more) lists

self_named : (name : Name) → bytes_eq (name_bytes name) (name_bytes name) ≡ true
self_named name = (bytes_eq-Decides (name_bytes name) (name_bytes name)).1 refl

with_lists : (name other : Name) (ifaces : List Iface) (listed : Bool) → list_any (is_named name) ifaces ≡ listed →
    Lists ifaces other → Lists (cond listed ifaces (ifaces ++ record { name = name; addrs = [] } ∷ [])) other
with_lists name other ifaces true e lists = lists
with_lists name other ifaces false e lists = more_list ifaces (record { name = name; addrs = [] } ∷ []) other lists

with_lists_self : (name : Name) (ifaces : List Iface) (listed : Bool) → list_any (is_named name) ifaces ≡ listed →
    Lists (cond listed ifaces (ifaces ++ record { name = name; addrs = [] } ∷ [])) name
with_lists_self name ifaces true e = e
with_lists_self name ifaces false e =
    list_any-append (is_named name) ifaces (record { name = name; addrs = [] } ∷ []) ∙ ap (λ b. b || (bytes_eq (name_bytes name) (name_bytes name) || false)) e
    ∙ ap (λ b. b || false) (self_named name)

-- the interfaces of a run list what was listed before
run_lists : (lines : List ScriptLine) (ifaces : List Iface) (name : Name) → Lists ifaces name → Lists (run_interfaces ifaces lines) name
run_lists [] ifaces name lists = lists
run_lists (Said.Capture other dir file ∷ lines) ifaces name lists =
    run_lists lines (with_interface other ifaces) name (with_lists other name ifaces (list_any (is_named other) ifaces) refl lists)
run_lists (_ ∷ lines) ifaces name lists = run_lists lines ifaces name lists

-- and each name of a capture
abbrev ListsCapture : List Iface → ScriptLine → Type 0
ListsCapture ifaces (Said.Capture name dir file) = Lists ifaces name
ListsCapture ifaces _ = Unit {0}

captures_listed : (lines : List (ℕ × ScriptLine)) (ifaces : List Iface) → All (λ line. ListsCapture (run_interfaces ifaces (unnumbered lines)) line.1) lines
captures_listed [] ifaces = All-nil (λ (line : ℕ × ScriptLine). ListsCapture ifaces line.1)
captures_listed ((n, Said.Capture name dir file) ∷ lines) ifaces =
    let next = with_interface name ifaces in
    All-cons (λ (line : ℕ × ScriptLine). ListsCapture (run_interfaces next (unnumbered lines)) line.1) (n, Said.Capture name dir file) lines
    (run_lists (unnumbered lines) next name (with_lists_self name ifaces (list_any (is_named name) ifaces) refl)) (captures_listed lines next)
captures_listed ((n, said) ∷ lines) ifaces =
    All-cons (λ (line : ℕ × ScriptLine). ListsCapture (run_interfaces ifaces (unnumbered lines)) line.1) (n, said) lines tt (captures_listed lines ifaces)

line_known : (ifaces : List Iface) → length ifaces ≤ MAX_INTERFACES → (line : ℕ × ScriptLine) → ListsCapture ifaces line.1 → NamesKnownInterface ifaces line.1
line_known ifaces few (n, Said.Capture name dir file) lists = listed_is_one ifaces name few lists
line_known ifaces few (n, said) lists = tt

-- each capture's interface is one of the run's
pub all_known : (given ifaces : List Iface) (lines : List (ℕ × ScriptLine)) → ifaces ≡ run_interfaces given (unnumbered lines) → length ifaces ≤ MAX_INTERFACES →
    All (λ line. NamesKnownInterface ifaces line.1) lines
all_known given ifaces lines are few =
    All-weaker (λ line. ListsCapture ifaces line.1) (λ line. NamesKnownInterface ifaces line.1) (line_known ifaces few) lines
    (subst (λ (list : List Iface). All (λ line. ListsCapture list line.1) lines) (sym are) (captures_listed lines given))

-- the lines from a place on are the one that stands there and those behind it
pub line_and_rest : (lines : List (ℕ × ScriptLine)) (i : ℕ) (line : ℕ × ScriptLine) → i < length lines → line ≡ get_or lines i line → drop i lines ≡ line ∷ drop (i + 1) lines
line_and_rest lines i line within is = drop_more lines i line within ∙ ap (λ l. l ∷ drop (i + 1) lines) (sym is)

-- the files that a script names are named by text
either_names : (file bytes : List ℕ) (lines : List (ℕ × ScriptLine)) → ReadsEither file bytes (Ok (Scripted lines)) → All (λ line. NamesTextFile line.1) lines
either_names file bytes lines (scripted not_capture fits is) = read_names (text_lines bytes) lines is

pub script_names : (tap : Option NamedTap) (file bytes : List ℕ) (lines : List (ℕ × ScriptLine)) → ReadsSource tap file bytes (Ok (Scripted lines)) →
    All (λ line. NamesTextFile line.1) lines
script_names None file bytes lines is = either_names file bytes lines is
script_names (Some tap) file bytes lines is = cc

-- a capture alone has the bytes of the file
pub alone_bytes : (tap : Option NamedTap) (file bytes got : List ℕ) → ReadsSource tap file bytes (Ok (Alone got)) → got ≡ bytes
alone_bytes None file bytes got (alone begins) = refl
alone_bytes (Some tap) file bytes got is = cc

one_if : (tap : Option NamedTap) (script : List ℕ) (lines : List (ℕ × ScriptLine)) (alone : Option (Vec ℕ Global)) →
    lines ≡ lines_of_source tap script (source_with (option_map (λ bytes. bytes.items) alone) lines) → IfSome alone (λ _. length lines ≡ 1)
one_if tap script lines None are = tt
one_if tap script lines (Some bytes) are = ap length are

-- a capture alone stands for one line
pub one_line : (script : List ℕ) (orders : Orders) → orders.lines ≡ lines_of_source orders.tap script (source_ordered orders) → IfSome orders.alone (λ _. length orders.lines ≡ 1)
one_line script orders are = one_if orders.tap script orders.lines orders.alone are
