-- What the values of a definition's arguments are to the command that is read of them.
use Rattle.std.proofs.Common.{◌≡◌, ◌∙◌, ◌≤◌, ◌&&◌, ◌↔◌, if◌then◌else◌, IfSome, IsSome, IsTrue, Bool, true, false, List, [], ◌∷◌, Option, Some, None}
use Rattle.std.proofs.Common.{Result, Ok, Err, ℕ, ◌<◌, is_some, refl, sym, ap, subst, arith, codes}
use Rattle.std.specs.{Char.{digit_value, is_digit}, List.list_all}
use Rattle.std.proofs.lemmas.Bool.Decides.{nat_tests}
use Rattle.clap.proofs.WalkLemmas.{both}
use Rattle.std.specs.{Prelude.{nat_lt, pos, unwrap_or}, Option.option_map_or, Str.Parse.{AllDigits, IsNumeral, starts_with_minus, without_leading_plus}}
use Rattle.std.proofs.lemmas.{Bool.ne_eqb, Int.ints}
use Rattle.clap.specs.{Kinds.{IsAmong, Kinds}, Walk.is_empty, Words.{IsSignedIn, IsUnsignedIn, Row, Rule, Text, first_of, found_of, rows_of}}
use Rattle.clap.specs.declared.{error.kind.ErrorKind.ErrorKind, parser.matches.ArgMatches.ArgMatches}
use Rattle.npf_types.specs.{NameText.is_name, Named.named, declared.name.Name.Name}
use Rattle.npf_ctl_words.specs.CommandLine.{SaysCommand, TellsCommand, are_seconds, command_name, iface_named, is_command_line}
use Rattle.npf_ctl_words.specs.CommandLine.{is_numeral, knows_names, name_in, rows_in, seconds_named, signed_number, takes_words}
use Rattle.npf_ctl_words.specs.Definitions.{check_command, compare_command, definition_of, explain_command, gen_command, lint_command, loading_command, number_parser, number_rule}
use Rattle.npf_ctl_words.specs.Definitions.{query_command, reasons_command, run_command, spread_rule, steps_rule, word_rule, workers_parser, workers_rule}
use Rattle.npf_ctl_words.specs.{Values.{HasEachValue, HasValue, IsMatched}, declared.command.{Invocation.Invocation, CommandName.CommandName}}
use Rattle.npf_ctl_words.specs.declared.fault.WordsFault.{WordsFault}

pub among_some : (k : ErrorKind) (ks : Kinds) → IsAmong k ks → is_empty ks ≡ false
among_some k [] h = absurd h
among_some k (x ∷ xs) h = ne_eqb _ _ (λ e. omega arith)

abbrev pub err_fault : {T : Type 0} → Result T WordsFault → WordsFault → WordsFault
err_fault (Err e) other = e
err_fault (Ok v) other = other

-- ---- words that are refused, and the command of the others

abbrev pub is_line_of : List Text → Option CommandName → Bool
is_line_of words o = option_map_or (λ n. takes_words n words && knows_names n (rows_in n words)) o false

pub refused_unnamed : (words : List Text) → name_in words ≡ None → is_command_line words ≡ false
refused_unnamed words none = ap (is_line_of words) none

pub refused_words : (words : List Text) (n : CommandName) → name_in words ≡ Some n → takes_words n words ≡ false → is_command_line words ≡ false
refused_words words n named refused = ap (is_line_of words) named ∙ ap (λ b. b && knows_names n (rows_in n words)) refused

-- what is known of the words of a command once `clap` has taken them
pub record IsTaken (words : List Text) (n : CommandName) (m : ArgMatches) : Type 0 where
  pub named : name_in words ≡ Some n
  pub taken : takes_words n words ≡ true
  pub found : IsMatched (definition_of n) words m

line_knows : (words : List Text) (n : CommandName) (m : ArgMatches) (b : Bool) → IsTaken words n m
    → knows_names n (rows_of (found_of m)) ≡ b → is_command_line words ≡ b
line_knows words n m b t knows = ap (is_line_of words) t.named
    ∙ (ap (λ x. x && knows_names n (rows_in n words)) t.taken
    ∙ (ap (knows_names n) (sym t.found.rows) ∙ knows))

pub refused_names : (words : List Text) (n : CommandName) (m : ArgMatches) → IsTaken words n m
    → knows_names n (rows_of (found_of m)) ≡ false → is_command_line words ≡ false
refused_names words n m t unknown = line_knows words n m false t unknown

pub says : (words : List Text) (n : CommandName) (m : ArgMatches) (c : Invocation) → IsTaken words n m
    → knows_names n (rows_of (found_of m)) ≡ true → command_name c ≡ n → TellsCommand (rows_of (found_of m)) c → SaysCommand words c
says words n m c t knows name told = record {
  taken = line_knows words n m true t knows;
  name = t.named ∙ ap Some (sym name);
  told = subst (λ (rows : List Row). TellsCommand rows c) (t.found.rows ∙ ap (λ k. rows_in k words) (sym name)) told;
}

-- ---- the values

some_value : (r : Rule) (rows : List Row) → HasValue r rows → is_some (first_of r.id rows) ≡ true
some_value r rows h = ap is_some h.1

pub conf_of_run : (rows : List Row) → HasEachValue run_command rows → is_some (first_of (codes "conf") rows) ≡ true
conf_of_run rows h = some_value (word_rule (codes "conf")) rows (h 0 _ refl refl)

pub script_of_run : (rows : List Row) → HasEachValue run_command rows → is_some (first_of (codes "script") rows) ≡ true
script_of_run rows h = some_value (word_rule (codes "script")) rows (h 1 _ refl refl)

workers_value : (rows : List Row) → HasEachValue run_command rows → HasValue workers_rule rows
workers_value rows h = h 3 _ refl refl

pub workers_of_run : (rows : List Row) → HasEachValue run_command rows → is_some (first_of (codes "workers") rows) ≡ true
workers_of_run rows h = some_value workers_rule rows (workers_value rows h)

pub few_of_run : (rows : List Row) (t : Text) → HasEachValue run_command rows
    → first_of (codes "workers") rows ≡ Some t → IsSignedIn (pos 1) (pos 64) t
few_of_run rows t h found =
    let v = workers_value rows h in
    let same : v.0 ≡ t = ap (λ o. unwrap_or o t) (sym v.1 ∙ found) in
    subst (IsSignedIn (pos 1) (pos 64)) same (v.2 workers_parser refl)

pub spread_of_run : (rows : List Row) → HasEachValue run_command rows → is_some (first_of (codes "spread") rows) ≡ true
spread_of_run rows h = some_value spread_rule rows (h 4 _ refl refl)

pub conf_of_load : (id : Text) (rows : List Row) → HasEachValue (loading_command id) rows → is_some (first_of (codes "conf") rows) ≡ true
conf_of_load id rows h = some_value (word_rule (codes "conf")) rows (h 0 _ refl refl)

pub conf_of_why : (rows : List Row) → HasEachValue reasons_command rows → is_some (first_of (codes "conf") rows) ≡ true
conf_of_why rows h = some_value (word_rule (codes "conf")) rows (h 0 _ refl refl)

pub conf_of_explain : (rows : List Row) → HasEachValue explain_command rows → is_some (first_of (codes "conf") rows) ≡ true
conf_of_explain rows h = some_value (word_rule (codes "conf")) rows (h 0 _ refl refl)

pub iface_of_explain : (rows : List Row) → HasEachValue explain_command rows → is_some (first_of (codes "iface") rows) ≡ true
iface_of_explain rows h = some_value (word_rule (codes "iface")) rows (h 1 _ refl refl)

pub dir_of_explain : (rows : List Row) → HasEachValue explain_command rows → is_some (first_of (codes "dir") rows) ≡ true
dir_of_explain rows h = some_value (word_rule (codes "dir")) rows (h 2 _ refl refl)

pub class_of_explain : (rows : List Row) → HasEachValue explain_command rows → is_some (first_of (codes "class") rows) ≡ true
class_of_explain rows h = some_value (word_rule (codes "class")) rows (h 3 _ refl refl)

pub conf_of_query : (rows : List Row) → HasEachValue query_command rows → is_some (first_of (codes "conf") rows) ≡ true
conf_of_query rows h = some_value (word_rule (codes "conf")) rows (h 0 _ refl refl)

pub class_of_query : (rows : List Row) → HasEachValue query_command rows → is_some (first_of (codes "class") rows) ≡ true
class_of_query rows h = some_value (word_rule (codes "class")) rows (h 1 _ refl refl)

steps_value : (rows : List Row) → HasEachValue query_command rows → HasValue steps_rule rows
steps_value rows h = h 3 _ refl refl

pub steps_of_query : (rows : List Row) → HasEachValue query_command rows → is_some (first_of (codes "steps") rows) ≡ true
steps_of_query rows h = some_value steps_rule rows (steps_value rows h)

pub in_range_of_query : (rows : List Row) (t : Text) → HasEachValue query_command rows → first_of (codes "steps") rows ≡ Some t
    → IsUnsignedIn 0 18446744073709551615 t
in_range_of_query rows t h found =
    let v = steps_value rows h in
    let same : v.0 ≡ t = ap (λ o. unwrap_or o t) (sym v.1 ∙ found) in
    subst (IsUnsignedIn 0 18446744073709551615) same (v.2 number_parser refl)

pub conf_of_check : (rows : List Row) → HasEachValue check_command rows → is_some (first_of (codes "conf") rows) ≡ true
conf_of_check rows h = some_value (word_rule (codes "conf")) rows (h 0 _ refl refl)

pub file_of_check : (rows : List Row) → HasEachValue check_command rows → is_some (first_of (codes "expectations") rows) ≡ true
file_of_check rows h = some_value (word_rule (codes "expectations")) rows (h 1 _ refl refl)

check_steps : (rows : List Row) → HasEachValue check_command rows → HasValue steps_rule rows
check_steps rows h = h 3 _ refl refl

pub steps_of_check : (rows : List Row) → HasEachValue check_command rows → is_some (first_of (codes "steps") rows) ≡ true
steps_of_check rows h = some_value steps_rule rows (check_steps rows h)

pub in_range_of_check : (rows : List Row) (t : Text) → HasEachValue check_command rows → first_of (codes "steps") rows ≡ Some t
    → IsUnsignedIn 0 18446744073709551615 t
in_range_of_check rows t h found =
    let v = check_steps rows h in
    let same : v.0 ≡ t = ap (λ o. unwrap_or o t) (sym v.1 ∙ found) in
    subst (IsUnsignedIn 0 18446744073709551615) same (v.2 number_parser refl)

pub conf_of_lint : (rows : List Row) → HasEachValue lint_command rows → is_some (first_of (codes "conf") rows) ≡ true
conf_of_lint rows h = some_value (word_rule (codes "conf")) rows (h 0 _ refl refl)

lint_steps : (rows : List Row) → HasEachValue lint_command rows → HasValue steps_rule rows
lint_steps rows h = h 2 _ refl refl

pub steps_of_lint : (rows : List Row) → HasEachValue lint_command rows → is_some (first_of (codes "steps") rows) ≡ true
steps_of_lint rows h = some_value steps_rule rows (lint_steps rows h)

pub in_range_of_lint : (rows : List Row) (t : Text) → HasEachValue lint_command rows → first_of (codes "steps") rows ≡ Some t
    → IsUnsignedIn 0 18446744073709551615 t
in_range_of_lint rows t h found =
    let v = lint_steps rows h in
    let same : v.0 ≡ t = ap (λ o. unwrap_or o t) (sym v.1 ∙ found) in
    subst (IsUnsignedIn 0 18446744073709551615) same (v.2 number_parser refl)

pub old_of_compare : (rows : List Row) → HasEachValue compare_command rows → is_some (first_of (codes "old") rows) ≡ true
old_of_compare rows h = some_value (word_rule (codes "old")) rows (h 0 _ refl refl)

pub new_of_compare : (rows : List Row) → HasEachValue compare_command rows → is_some (first_of (codes "new") rows) ≡ true
new_of_compare rows h = some_value (word_rule (codes "new")) rows (h 1 _ refl refl)

compare_steps : (rows : List Row) → HasEachValue compare_command rows → HasValue steps_rule rows
compare_steps rows h = h 3 _ refl refl

pub steps_of_compare : (rows : List Row) → HasEachValue compare_command rows → is_some (first_of (codes "steps") rows) ≡ true
steps_of_compare rows h = some_value steps_rule rows (compare_steps rows h)

pub in_range_of_compare : (rows : List Row) (t : Text) → HasEachValue compare_command rows → first_of (codes "steps") rows ≡ Some t
    → IsUnsignedIn 0 18446744073709551615 t
in_range_of_compare rows t h found =
    let v = compare_steps rows h in
    let same : v.0 ≡ t = ap (λ o. unwrap_or o t) (sym v.1 ∙ found) in
    subst (IsUnsignedIn 0 18446744073709551615) same (v.2 number_parser refl)

number_value : (rows : List Row) → HasEachValue gen_command rows → HasValue number_rule rows
number_value rows h = h 0 _ refl refl

pub number_of_gen : (rows : List Row) → HasEachValue gen_command rows → is_some (first_of (codes "number") rows) ≡ true
number_of_gen rows h = some_value number_rule rows (number_value rows h)

pub in_range_of_gen : (rows : List Row) (t : Text) → HasEachValue gen_command rows → first_of (codes "number") rows ≡ Some t → IsUnsignedIn 0 18446744073709551615 t
in_range_of_gen rows t h found =
    let v = number_value rows h in
    let same : v.0 ≡ t = ap (λ o. unwrap_or o t) (sym v.1 ∙ found) in
    subst (IsUnsignedIn 0 18446744073709551615) same (v.2 number_parser refl)

-- a number from 1 to 64 has no minus sign
pub few_digits : (t : Text) → IsSignedIn (pos 1) (pos 64) t → IsNumeral 10 (without_leading_plus t) × (1 ≤ signed_number t) × (signed_number t ≤ 64)
few_digits t h = go (starts_with_minus t) refl
  where
    go : (b : Bool) → starts_with_minus t ≡ b → IsNumeral 10 (without_leading_plus t) × (1 ≤ signed_number t) × (signed_number t ≤ 64)
    go true minus =
        let low = rw minus at h.2 in
        absurd (omega (arith, ints))
    go false minus =
        let numeral : IsNumeral 10 (without_leading_plus t) = rw minus at h.0 in
        let low = rw minus at h.2 in
        let high = rw minus at h.3 in
        (numeral, omega (arith, ints), omega (arith, ints))

-- ---- a number that is read by itself
digit_is : (c : ℕ) → digit_value c < 10 → is_digit c 10 ≡ true
digit_is c low = grind (arith, nat_tests)

is_a_digit : (c : ℕ) → is_digit c 10 ≡ true → digit_value c < 10
is_a_digit c is = grind (arith, nat_tests)

all_digits : (text : Text) → AllDigits 10 text → list_all (λ digit. is_digit digit 10) text ≡ true
all_digits [] each = refl
all_digits (c ∷ cs) each = rw (digit_is c each.0) (all_digits cs each.1)

each_digit : (text : Text) → list_all (λ digit. is_digit digit 10) text ≡ true → AllDigits 10 text
each_digit [] all = tt
each_digit (c ∷ cs) all = let are = both _ _ all in (is_a_digit c are.0, each_digit cs are.1)

pub numeral_is : (text : Text) → IsNumeral 10 text → is_numeral text ≡ true
numeral_is [] is = (let some = is.0 in absurd (omega arith))
numeral_is (c ∷ cs) is = all_digits (c ∷ cs) is.1

pub is_one : (text : Text) → is_numeral text ≡ true → IsNumeral 10 text
is_one [] is = cc
is_one (c ∷ cs) is = (omega arith, each_digit (c ∷ cs) is)

lower : (n m : ℕ) → n < m → nat_lt n m ≡ true
lower n m low = grind (arith, nat_tests)

is_lower : (n m : ℕ) → nat_lt n m ≡ true → n < m
is_lower n m is = grind (arith, nat_tests)

module _ (text : Text) where
  abbrev Reads : Type 0
  Reads = IsNumeral 10 (without_leading_plus text) × (signed_number text < 4294967296)

  abbrev picked : Bool → Option ℕ
  picked b = if b then Some (signed_number text) else None

  pub seconds_read : (n : ℕ) → Reads → n ≡ signed_number text → 0 < n → Some n ≡ seconds_named text
  seconds_read n reads same positive =
      let low : nat_lt 0 (signed_number text) ≡ true = lower 0 (signed_number text) (omega (arith, same, positive)) in
      let are : are_seconds text ≡ true = rw (numeral_is (without_leading_plus text) reads.0, low, lower (signed_number text) 4294967296 reads.1) refl in
      ap Some same ∙ sym (ap picked are)

  none_picked : (are_seconds text ≡ true → ⊥) → None ≡ seconds_named text
  none_picked never = go (are_seconds text) refl
    where
      go : (b : Bool) → are_seconds text ≡ b → None ≡ picked b
      go false e = refl
      go true e = absurd (never e)

  pub seconds_unread : ¬ Reads → None ≡ seconds_named text
  seconds_unread never = none_picked (λ are. never (is_one (without_leading_plus text) (both _ _ are).0, is_lower (signed_number text) 4294967296 (both _ _ (both _ _ are).1).1))

-- ---- the definition of a name that is known

pub known : (n k : CommandName) (rows : List Row) → n ≡ k → HasEachValue (definition_of n) rows → HasEachValue (definition_of k) rows
known n k rows is h = subst (λ (z : CommandName). HasEachValue (definition_of z) rows) is h

pub needless : (n k : CommandName) (rows : List Row) → n ≡ k → knows_names k rows ≡ true → knows_names n rows ≡ true
needless n k rows is h = ap (λ z. knows_names z rows) is ∙ h

-- ---- the interface that a word names

pub named_once : (word : Text) (found : Option Name) → (IsSome found ↔ IsTrue (is_name word)) → IfSome found (λ name. name ≡ named word) →
    found ≡ iface_named word
named_once word found both is = go (is_name word) refl found both is
  where
    picked : Bool → Option Name
    picked b = if b then Some (named word) else None

    go : (b : Bool) → is_name word ≡ b → (found : Option Name) → (IsSome found ↔ IsTrue (is_name word)) → IfSome found (λ name. name ≡ named word) →
        found ≡ iface_named word
    go true e None both is = (let bad : false ≡ true = both.1 e in cc)
    go false e None both is = sym (ap picked e)
    go true e (Some name) both is = ap Some is ∙ sym (ap picked e)
    go false e (Some name) both is = (let bad : false ≡ true = sym e ∙ both.0 refl in cc)
