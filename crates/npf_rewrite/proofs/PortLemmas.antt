-- The port or identifier that stands where one was written, or not, beside a sum.
use Rattle.std.proofs.Common.{◌≡◌, ℕ, ◌+◌, ◌<◌, ◌≤◌, ◌⊎◌, Bool, true, false, Option, Some, None, List, [], ◌∷◌, ◌++◌, refl, sym, ap, ◌∙◌, inl, inr, arith}
use Rattle.std.specs.{Option.option_or, Prelude.{if◌then◌else◌, slice_index}}
use Rattle.npf_fields.specs.Field.{number16}
use Rattle.npf_key.specs.Translated.{echo_there, port_there}
use Rattle.npf_rewrite.specs.{declared.word.WordAt.WordAt, Translated.identifier_write, Word.{byte_there, named_word, word, word_list}}
use Rattle.npf_rewrite.proofs.PlacedLemmas.{unless, unless-elsewhere}
use Rattle.npf_rewrite.proofs.{TotalLemmas.{Between, after, after-elsewhere, byte_after-lower, byte_after-upper, value_at}, WordLemmas.byte_there-append}

named-there : (g f : ℕ → ℕ) (at : ℕ) (o : Option ℕ)
    → ((k : ℕ) → at ≤ k → k < at + 2 → g k ≡ after (word_list (named_word at o)) f k)
    → value_at g at ≡ port_there o (value_at f at)
named-there g f at (Some v) each =
    let w = word at v in
    let upper = each at (omega arith) (omega arith) ∙ byte_after-upper w at (f at) refl in
    let lower = each (at + 1) (omega arith) (omega arith) ∙ byte_after-lower w (at + 1) (f (at + 1)) refl in
    omega (arith, upper, lower)
named-there g f at None each =
    omega (
      arith,
      each at (omega arith) (omega arith),
      each (at + 1) (omega arith) (omega arith),
    )

named-between : (at : ℕ) (o : Option ℕ) → Between at (at + 2) (word_list (named_word at o))
named-between at (Some v) = (omega arith, (omega arith, tt))
named-between at None = tt

-- the ports of TCP and UDP
abbrev pub ports : ℕ → Option ℕ → Option ℕ → List WordAt
ports l4 sp dp = word_list (named_word (l4 + 0) sp) ++ word_list (named_word (l4 + 2) dp)

pub ports-between : (l4 : ℕ) (sp dp : Option ℕ) → Between l4 (l4 + 4) (ports l4 sp dp)
ports-between l4 (Some s) (Some d) = (omega arith, (omega arith, (omega arith, (omega arith, tt))))
ports-between l4 (Some s) None = (omega arith, (omega arith, tt))
ports-between l4 None (Some d) = (omega arith, (omega arith, tt))
ports-between l4 None None = tt

-- the bytes of what is carried, where ports are written and perhaps a sum at a place
module _ (old new : List ℕ) (neutral : Bool) (l4 at v : ℕ) (p : List WordAt)
    (each : (k : ℕ) → l4 ≤ k → slice_index new k
    ≡ byte_there (unless neutral (word at v ∷ [])) k (byte_there p k (slice_index old k))) where
  pub apart : (k : ℕ) → l4 ≤ k → (k < at) ⊎ (at + 2 ≤ k)
      → slice_index new k ≡ byte_there p k (slice_index old k)
  apart k from h = each k from
      ∙ unless-elsewhere neutral at (at + 2) (word at v ∷ []) k _ (omega arith, (omega arith, tt)) h

  module _ (s d : Option ℕ) (is : p ≡ ports l4 s d) where
    each-port : (k : ℕ) → l4 ≤ k → (k < at) ⊎ (at + 2 ≤ k)
        → slice_index new k ≡ byte_there (ports l4 s d) k (slice_index old k)
    each-port k from h = apart k from h ∙ ap (λ ws. byte_there ws k (slice_index old k)) is

    parted : (k : ℕ)
        → byte_there (ports l4 s d) k (slice_index old k)
        ≡ byte_there (word_list (named_word (l4 + 2) d)) k
        (byte_there (word_list (named_word (l4 + 0) s)) k (slice_index old k))
    parted k = byte_there-append (word_list (named_word (l4 + 0) s))
        (word_list (named_word (l4 + 2) d)) k (slice_index old k)

    pub source-is : l4 + 4 ≤ at
        → number16 new (l4 + 0) ≡ port_there s (number16 old (l4 + 0))
    source-is far = named-there (slice_index new) (slice_index old) (l4 + 0) s
        (λ k from below. each-port k (omega arith) (inl (omega arith)) ∙ parted k
        ∙ after-elsewhere (l4 + 2) (l4 + 2 + 2) (word_list (named_word (l4 + 2) d))
        (λ _. byte_there (word_list (named_word (l4 + 0) s)) k (slice_index old k)) k
        (named-between (l4 + 2) d) (inl (omega arith)))

    pub destination-is : l4 + 4 ≤ at
        → number16 new (l4 + 2) ≡ port_there d (number16 old (l4 + 2))
    destination-is far = named-there (slice_index new) (slice_index old) (l4 + 2) d
        (λ k from below. each-port k (omega arith) (inl (omega arith)) ∙ parted k
        ∙ ap (byte_there (word_list (named_word (l4 + 2) d)) k)
        (after-elsewhere (l4 + 0) (l4 + 0 + 2) (word_list (named_word (l4 + 0) s)) (slice_index old) k
        (named-between (l4 + 0) s) (inr (omega arith))))

    pub behind-ports : (k : ℕ) → l4 + 4 ≤ k → (k < at) ⊎ (at + 2 ≤ k)
        → slice_index new k ≡ slice_index old k
    behind-ports k from h = each-port k (omega arith) h
        ∙ after-elsewhere l4 (l4 + 4) (ports l4 s d) (slice_index old) k (ports-between l4 s d) (inr from)

either-port : (s d : Option ℕ) (x : ℕ) → port_there (option_or s d) x ≡ port_there s (port_there d x)
either-port (Some v) d x = refl
either-port None d x = refl

-- a message of ICMP or ICMPv6, whose sum stands at 2 and an echo's identifier at 4
module _ (old new : List ℕ) (neutral : Bool) (l4 v : ℕ) (s d echo : Option ℕ)
    (each : (k : ℕ) → l4 ≤ k → slice_index new k
    ≡ byte_there (unless neutral (word (l4 + 2) v ∷ [])) k
    (byte_there (word_list (identifier_write l4 s d echo) ++ []) k (slice_index old k))) where
  abbrev written : Option ℕ → List WordAt
  written o = word_list (identifier_write l4 s d o)

  each-message : (k : ℕ) → l4 ≤ k → (k < l4 + 2) ⊎ (l4 + 2 + 2 ≤ k)
      → slice_index new k ≡ byte_there (written echo) k (slice_index old k)
  each-message k from h =
      apart old new neutral l4 (l4 + 2) v (written echo ++ []) each k from h
      ∙ byte_there-append (written echo) [] k (slice_index old k)

  written-between : (o : Option ℕ) → Between (l4 + 4) (l4 + 4 + 2) (written o)
  written-between (Some _) = named-between (l4 + 4) (option_or s d)
  written-between None = tt

  pub message-same : (k : ℕ) → l4 ≤ k → k < l4 + 2 → slice_index new k ≡ slice_index old k
  message-same k from below =
      each-message k from (inl below)
      ∙ after-elsewhere (l4 + 4) (l4 + 4 + 2) (written echo) (slice_index old) k (written-between echo)
      (inl (omega arith))

  pub echo-is : (is_echo : Bool)
      → echo ≡ (if is_echo then Some (number16 old (l4 + 4)) else None)
      → echo_there s d echo ≡ (if is_echo then Some (number16 new (l4 + 4)) else None)
  echo-is true is =
      let value = named-there (slice_index new) (slice_index old) (l4 + 4) (option_or s d)
      (λ k from below. each-message k (omega arith) (inr (omega arith))
      ∙ ap (λ o. byte_there (written o) k (slice_index old k)) is) in
      ap (echo_there s d) is
      ∙ ap Some (sym (value ∙ either-port s d (number16 old (l4 + 4))))
  echo-is false is = ap (echo_there s d) is
