-- A line has one form at most.
use Rattle.std.proofs.Common.{◌≡◌, ◌==◌, ◌+◌, ◌*◌, ◌<◌, ◌^◌, ℕ, Option, Some, None, List, MatchOption, cond, length, position, slice_index, take, drop, codes, refl, sym, ap, subst, ◌∙◌, arith}
use Rattle.std.specs.Str.Parse.{AllDigits}
use Rattle.npf_types.specs.{declared.{direction.Dir.{Dir, TheVariants.{In, Out}}, name.Name.Name, prefix.Prefix.Prefix}, Address.{cleared, width}}
use Rattle.npf_types.proofs.{AddressTextLemmas.one_address, PrefixLemmas.Prefix-same}
use Rattle.npf_table.specs.PrefixText.{IsBlockText, IsHostText, IsPrefixText, is_slash}
use Rattle.npf_ctl_script.specs.declared.{command.LineCommand.LineCommand, script.ScriptLine.ScriptLine}
use Rattle.npf_ctl_script.specs.declared.command.LineCommand.TheVariants as Commands
use Rattle.npf_ctl_script.specs.declared.script.ScriptLine.TheVariants.{Capture, Phase, Packets, Reload, RuleAdd, RuleRem, RuleFlush, TableAdd, TableRem, Expire}
use Rattle.npf_ctl_script.specs.declared.change_word.Verb.{Verb, TheVariants.{Add, RemId, Rem, Flush}}
use Rattle.npf_ctl_script.specs.Arguments.{HasArguments, IsChange, IsForm, IsNameWord, IsPacketCount, behind_change}
use Rattle.npf_ctl_script.specs.Commands.{command_of, command_text, direction_text, verb_text}
use Rattle.npf_ctl_script.specs.{Numbers.{IsFraction, IsNumberBelow, IsPartedSeconds, IsSeconds, IsWholeSeconds, is_point}, Words.{behind_word, leading_word}}

-- what a word of the grammar stands for, by its first byte and its length
abbrev command_by : List ℕ → LineCommand
command_by text =
    cond (slice_index text 0 == 99) Commands.Capture (cond (slice_index text 0 == 101) Commands.Expire (cond (slice_index text 0 == 116) Commands.Table
    (cond (length text == 5) Commands.Phase (cond (length text == 7) Commands.Packets (cond (length text == 6) Commands.Reload Commands.Rule)))))

command_by_text : (c : LineCommand) → command_by (command_text c) ≡ c
command_by_text Commands.Capture = refl
command_by_text Commands.Phase = refl
command_by_text Commands.Packets = refl
command_by_text Commands.Reload = refl
command_by_text Commands.Rule = refl
command_by_text Commands.Table = refl
command_by_text Commands.Expire = refl

command_same : (c d : LineCommand) → command_text c ≡ command_text d → c ≡ d
command_same c d same = sym (command_by_text c) ∙ ap command_by same ∙ command_by_text d

abbrev verb_by : List ℕ → Verb
verb_by text = cond (slice_index text 0 == 97) Add (cond (slice_index text 0 == 102) Flush (cond (length text == 6) RemId Rem))

verb_by_text : (v : Verb) → verb_by (verb_text v) ≡ v
verb_by_text Add = refl
verb_by_text RemId = refl
verb_by_text Rem = refl
verb_by_text Flush = refl

verb_same : (v w : Verb) → verb_text v ≡ verb_text w → v ≡ w
verb_same v w same = sym (verb_by_text v) ∙ ap verb_by same ∙ verb_by_text w

abbrev direction_by : List ℕ → Dir
direction_by text = cond (length text == 2) In Out

direction_by_text : (d : Dir) → direction_by (direction_text d) ≡ d
direction_by_text In = refl
direction_by_text Out = refl

direction_same : (d e : Dir) → direction_text d ≡ direction_text e → d ≡ e
direction_same d e same = sym (direction_by_text d) ∙ ap direction_by same ∙ direction_by_text e

module _ (word : List ℕ) where
  name_same : (n m : Name) → IsNameWord word n → IsNameWord word m → n ≡ m
  name_same n m h k = h.value ∙ sym k.value

  number_same : (bound a b : ℕ) → IsNumberBelow bound word a → IsNumberBelow bound word b → a ≡ b
  number_same bound a b h k = sym h.value ∙ k.value

  -- `rest` is no number
  rest_is_none : (a : ℕ) → IsNumberBelow (2 ^ 64) word a → word ≡ codes "rest" → ⊥
  rest_is_none a h is =
      let digits = subst (AllDigits 10) is h.numeral.1 in
      let first : 27 < 10 = digits.0 in
      omega (arith, first)

  count_same : (a b : Option ℕ) → IsPacketCount word a → IsPacketCount word b → a ≡ b
  count_same None None h k = refl
  count_same (Some a) (Some b) h k = ap Some (number_same (2 ^ 64) a b h k)
  count_same None (Some b) h k = absurd (rest_is_none b k h)
  count_same (Some a) None h k = absurd (rest_is_none a h k)

  whole_same : (a b : ℕ) → IsWholeSeconds word a → IsWholeSeconds word b → a ≡ b
  whole_same a b h k = h.value ∙ ap (λ s. s * 1000000000) (number_same (2 ^ 32) h.seconds k.seconds h.whole k.whole) ∙ sym k.value

  fraction_same : (a b : ℕ) → IsFraction word a → IsFraction word b → a ≡ b
  fraction_same a b h k = h.value ∙ sym k.value

parted_same : (digits fraction : List ℕ) (a b : ℕ) → IsPartedSeconds digits fraction a → IsPartedSeconds digits fraction b → a ≡ b
parted_same digits fraction a b h k =
    h.value ∙ ap (λ s. s + h.nanoseconds) (whole_same digits h.start k.start h.whole k.whole)
    ∙ ap (λ n. k.start + n) (fraction_same fraction h.nanoseconds k.nanoseconds h.part k.part) ∙ sym k.value

seconds_same : (word : List ℕ) (a b : ℕ) → IsSeconds word a → IsSeconds word b → a ≡ b
seconds_same word a b = by (position is_point word) where
  by : (point : Option ℕ) → MatchOption point (IsWholeSeconds word a) (λ at. IsPartedSeconds (take at word) (drop (at + 1) word) a)
      → MatchOption point (IsWholeSeconds word b) (λ at. IsPartedSeconds (take at word) (drop (at + 1) word) b) → a ≡ b
  by None h k = whole_same word a b h k
  by (Some at) h k = parted_same (take at word) (drop (at + 1) word) a b h k

host_same : (text : List ℕ) (p q : Prefix) → IsHostText text p → IsHostText text q → p ≡ q
host_same text p q h k =
    let address : p.addr ≡ q.addr = one_address text p.addr q.addr h.address k.address in
    Prefix-same p q address (h.whole ∙ ap width address ∙ sym k.whole)

block_same : (address digits : List ℕ) (p q : Prefix) → IsBlockText address digits p → IsBlockText address digits q → p ≡ q
block_same address digits p q h k =
    let base : h.written ≡ k.written = one_address address h.written k.written h.spelled k.spelled in
    let long : p.len ≡ q.len = sym h.long.value ∙ k.long.value in
    Prefix-same p q (h.masked ∙ ap (λ a. cleared a p.len) base ∙ ap (cleared k.written) long ∙ sym k.masked) long

prefix_same : (text : List ℕ) (p q : Prefix) → IsPrefixText text p → IsPrefixText text q → p ≡ q
prefix_same text p q = by (position is_slash text) where
  by : (slash : Option ℕ) → MatchOption slash (IsHostText text p) (λ at. IsBlockText (take at text) (drop (at + 1) text) p)
      → MatchOption slash (IsHostText text q) (λ at. IsBlockText (take at text) (drop (at + 1) text) q) → p ≡ q
  by None h k = host_same text p q h k
  by (Some at) h k = block_same (take at text) (drop (at + 1) text) p q h k

module _ (text : List ℕ) where
  change_name : (n m : Name) (v w : Verb) → IsChange text n v → IsChange text m w → n ≡ m
  change_name n m v w h k = name_same (leading_word text) n m h.named k.named

  change_verb : (n m : Name) (v w : Verb) → IsChange text n v → IsChange text m w → v ≡ w
  change_verb n m v w h k = verb_same v w (sym h.does ∙ k.does)

  arguments_same : (a b : ScriptLine) → command_of a ≡ command_of b → HasArguments text a → HasArguments text b → a ≡ b
  arguments_same (Capture n d f) (Capture m e g) c h k =
      let name = name_same _ n m h.interface k.interface in
      let dir = direction_same d e (sym h.direction ∙ k.direction) in
      let file : f ≡ g = h.quoted.value ∙ sym k.quoted.value in
      λ i. Capture (name i) (dir i) (file i)
  arguments_same (Capture n d f) _ c h k = cc
  arguments_same Phase Phase c h k = refl
  arguments_same Phase _ c h k = cc
  arguments_same (Packets n) (Packets m) c h k = ap Packets (count_same (leading_word text) n m h.word k.word)
  arguments_same (Packets n) _ c h k = cc
  arguments_same (Reload f) (Reload g) c h k = ap Reload (h.value ∙ sym k.value)
  arguments_same (Reload f) _ c h k = cc
  arguments_same (RuleAdd n r) (RuleAdd m s) c h k =
      let name = change_name n m Add Add h.0 k.0 in
      let rule : r ≡ s = h.1 ∙ sym k.1 in
      λ i. RuleAdd (name i) (rule i)
  arguments_same (RuleAdd n r) (RuleRem m b) c h k = let verb = change_verb n m Add RemId h.0 k.0 in cc
  arguments_same (RuleAdd n r) (RuleFlush m) c h k = let verb = change_verb n m Add Flush h.0 k.0 in cc
  arguments_same (RuleAdd n r) _ c h k = cc
  arguments_same (RuleRem n a) (RuleRem m b) c h k =
      let name = change_name n m RemId RemId h.0 k.0 in
      let id = number_same _ (2 ^ 32) a b h.1.word k.1.word in
      λ i. RuleRem (name i) (id i)
  arguments_same (RuleRem n a) (RuleAdd m s) c h k = let verb = change_verb n m RemId Add h.0 k.0 in cc
  arguments_same (RuleRem n a) (RuleFlush m) c h k = let verb = change_verb n m RemId Flush h.0 k.0 in cc
  arguments_same (RuleRem n a) _ c h k = cc
  arguments_same (RuleFlush n) (RuleFlush m) c h k = ap RuleFlush (change_name n m Flush Flush h.0 k.0)
  arguments_same (RuleFlush n) (RuleAdd m s) c h k = let verb = change_verb n m Flush Add h.0 k.0 in cc
  arguments_same (RuleFlush n) (RuleRem m b) c h k = let verb = change_verb n m Flush RemId h.0 k.0 in cc
  arguments_same (RuleFlush n) _ c h k = cc
  arguments_same (TableAdd n p) (TableAdd m q) c h k =
      let name = change_name n m Add Add h.0 k.0 in
      let prefix = prefix_same (leading_word (behind_change text)) p q h.1.word k.1.word in
      λ i. TableAdd (name i) (prefix i)
  arguments_same (TableAdd n p) (TableRem m q) c h k = let verb = change_verb n m Add Rem h.0 k.0 in cc
  arguments_same (TableAdd n p) _ c h k = cc
  arguments_same (TableRem n p) (TableRem m q) c h k =
      let name = change_name n m Rem Rem h.0 k.0 in
      let prefix = prefix_same (leading_word (behind_change text)) p q h.1.word k.1.word in
      λ i. TableRem (name i) (prefix i)
  arguments_same (TableRem n p) (TableAdd m q) c h k = let verb = change_verb n m Rem Add h.0 k.0 in cc
  arguments_same (TableRem n p) _ c h k = cc
  arguments_same (Expire a) (Expire b) c h k = ap Expire (seconds_same (leading_word text) a b h.word k.word)
  arguments_same (Expire a) _ c h k = cc

pub form_same : (line : List ℕ) (a b : ScriptLine) → IsForm line a → IsForm line b → a ≡ b
form_same line a b h k =
    arguments_same (behind_word line) a b (command_same (command_of a) (command_of b) (sym h.command ∙ k.command)) h.arguments k.arguments
