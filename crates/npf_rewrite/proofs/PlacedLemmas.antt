-- What stands at each place of a translated packet.
use Rattle.std.proofs.Common.{◌≡◌, ℕ, ◌+◌, ◌<◌, ◌≤◌, ◌⊎◌, Bool, true, false, Option, Some, None, List, [], ◌∷◌, ◌++◌, refl, sym, ap, ◌∙◌, inl, inr, arith}
use Rattle.std.specs.Prelude.{if◌then◌else◌, slice_index}
use Rattle.npf_types.specs.declared.{address.Addr.{Addr, TheVariants.{V4, V6}}, change.Change.Change, facts.{Facts.Facts, L4.L4}}
use Rattle.npf_types.specs.declared.facts.L4.TheVariants.{Tcp, Udp, Icmp, Icmp6, Other}
use Rattle.npf_key.specs.Translated.{fitting, named_port}
use Rattle.npf_packet.specs.Place.{least_ip_header}
use Rattle.npf_rewrite.specs.{declared.{translated.NewEnds.NewEnds, word.WordAt.WordAt}, Address.end_words}
use Rattle.npf_rewrite.specs.Translated.{Translated, destination_at, destination_write, header_sum, identifier_write, new_ends, port_writes}
use Rattle.npf_rewrite.specs.{Translated.{source_at, source_write, sum_write, upper_sum, upper_sum_at}, Word.{byte_there, named_word, word_list}}
use Rattle.npf_rewrite.proofs.{EndLemmas.{address_size, end-between}, TotalLemmas.{Between, after-elsewhere}, WordLemmas.byte_there-append}

-- the first place of a header that may change
abbrev pub front_at : ℕ → Addr → ℕ
front_at ip (V4 _) = ip + 10
front_at ip (V6 _) = ip + 8

pub header_sum-between : (bytes : List ℕ) (ip : ℕ) (src : Addr) (ws : List WordAt)
    → Between (front_at ip src) (source_at ip src) (word_list (header_sum bytes ip src ws))
header_sum-between bytes ip (V4 a) ws = (omega arith, (omega arith, tt))
header_sum-between bytes ip (V6 a) ws = tt

-- the fields of a header of this address's family stand in order
pub record IsLaid (ip : ℕ) (src : Addr) : Type 0 where
  pub least : ip + 8 ≤ front_at ip src
  pub front : front_at ip src ≤ source_at ip src
  pub source : source_at ip src + address_size src ≡ destination_at ip src
  pub end : destination_at ip src + address_size src ≡ ip + least_ip_header src

pub laid : (ip : ℕ) (src : Addr) → IsLaid ip src
laid ip (V4 a) = record {
  least = omega arith;
  front = omega arith;
  source = omega arith;
  end = omega arith;
}
laid ip (V6 a) = record {
  least = omega arith;
  front = omega arith;
  source = omega arith;
  end = omega arith;
}

pub between-append : (lo hi : ℕ) (ws vs : List WordAt) → Between lo hi ws → Between lo hi vs
    → Between lo hi (ws ++ vs)
between-append lo hi [] vs p q = q
between-append lo hi (w ∷ ws) vs p q = (p.0, (p.1.0, between-append lo hi ws vs p.1.1 q))

-- what is written behind the header
module _ (at : ℕ) where
  named-between : (k : ℕ) (v : Option ℕ) → at ≤ k → k + 2 ≤ at + 20
      → Between at (at + 20) (word_list (named_word k v))
  named-between k (Some v) from to = (from, (to, tt))
  named-between k None from to = tt

  identifier-between : (s d echo : Option ℕ)
      → Between at (at + 20) (word_list (identifier_write at s d echo))
  identifier-between s d (Some _) = named-between _ _ (omega arith) (omega arith)
  identifier-between s d None = tt

  source-between : (s d : Option ℕ) (l4 : L4)
      → Between at (at + 20) (word_list (source_write at s d l4))
  source-between s d (Tcp _ _ _ _) = named-between _ _ (omega arith) (omega arith)
  source-between s d (Udp _ _) = named-between _ _ (omega arith) (omega arith)
  source-between s d (Icmp _ _ echo) = identifier-between s d echo
  source-between s d (Icmp6 _ _ echo) = identifier-between s d echo
  source-between s d Other = tt

  destination-between : (s d : Option ℕ) (l4 : L4)
      → Between at (at + 20) (word_list (destination_write at s d l4))
  destination-between s d (Tcp _ _ _ _) = named-between _ _ (omega arith) (omega arith)
  destination-between s d (Udp _ _) = named-between _ _ (omega arith) (omega arith)
  destination-between s d (Icmp _ _ _) = tt
  destination-between s d (Icmp6 _ _ _) = tt
  destination-between s d Other = tt

  upper_sum-between : (bytes : List ℕ) (facts : Facts) (ends : NewEnds) (l4 : L4)
      → Between at (at + 20) (word_list (sum_write bytes facts ends (upper_sum_at at l4)))
  upper_sum-between bytes facts ends (Tcp _ _ _ _) = (omega arith, (omega arith, tt))
  upper_sum-between bytes facts ends (Udp _ _) = (omega arith, (omega arith, tt))
  upper_sum-between bytes facts ends (Icmp _ _ _) = (omega arith, (omega arith, tt))
  upper_sum-between bytes facts ends (Icmp6 _ _ _) = (omega arith, (omega arith, tt))
  upper_sum-between bytes facts ends Other = tt

-- words that are written where the change isn't neutral
abbrev pub unless : Bool → List WordAt → List WordAt
unless neutral ws = if neutral then [] else ws

pub unless-elsewhere : (b : Bool) (lo hi : ℕ) (ws : List WordAt) (k x : ℕ) → Between lo hi ws
    → (k < lo) ⊎ (hi ≤ k) → byte_there (unless b ws) k x ≡ x
unless-elsewhere true lo hi ws k x by h = refl
unless-elsewhere false lo hi ws k x by h = after-elsewhere lo hi ws (λ _. x) k by h

unless-append : (b : Bool) (ws vs : List WordAt) (k x : ℕ)
    → byte_there (unless b (ws ++ vs)) k x ≡ byte_there (unless b vs) k (byte_there (unless b ws) k x)
unless-append true ws vs k x = refl
unless-append false ws vs k x = byte_there-append ws vs k x

module _ (bytes translated : List ℕ) (facts : Facts) (change : Change)
    (above : facts.ip_at + least_ip_header facts.src ≤ facts.l4_at)
    (t : Translated bytes facts change translated) where
  abbrev ip : ℕ
  ip = facts.ip_at

  abbrev s : List WordAt
  s = end_words (source_at ip facts.src) (fitting facts.src change.src)

  abbrev d : List WordAt
  d = end_words (destination_at ip facts.src) (fitting facts.src change.dst)

  abbrev p : List WordAt
  p = port_writes facts (new_ends facts change)

  abbrev h : List WordAt
  h = word_list (header_sum bytes ip facts.src (s ++ d))

  abbrev u : List WordAt
  u = word_list (upper_sum bytes facts (new_ends facts change))

  abbrev f : ℕ → ℕ
  f = slice_index bytes

  abbrev g : ℕ → ℕ
  g = slice_index translated

  each : (k : ℕ) → g k ≡ byte_there (unless change.neutral u) k
      (byte_there (unless change.neutral h) k (byte_there p k (byte_there (s ++ d) k (f k))))
  each k =
      t.each k
      ∙ byte_there-append ((s ++ d) ++ p) (unless change.neutral (h ++ u)) k (f k)
      ∙ unless-append change.neutral h u k (byte_there ((s ++ d) ++ p) k (f k))
      ∙ ap (λ x. byte_there (unless change.neutral u) k (byte_there (unless change.neutral h) k x))
      (byte_there-append (s ++ d) p k (f k))

  by_s : Between (source_at ip facts.src) (destination_at ip facts.src) s
  by_s = let order = laid ip facts.src in
      rw (sym order.source) (end-between facts.src (source_at ip facts.src) change.src)

  by_d : Between (destination_at ip facts.src) (ip + least_ip_header facts.src) d
  by_d = let order = laid ip facts.src in
      rw (sym order.end) (end-between facts.src (destination_at ip facts.src) change.dst)

  by_h : Between (front_at ip facts.src) (source_at ip facts.src) h
  by_h = header_sum-between bytes ip facts.src (s ++ d)

  -- in front of what is carried
  in_header : (k : ℕ) → k < facts.l4_at
      → g k ≡ byte_there (unless change.neutral h) k (byte_there (s ++ d) k (f k))
  in_header k below =
      let ends = new_ends facts change in
      let sport = named_port ends.src in
      let dport = named_port ends.dst in
      let by_p = between-append facts.l4_at (facts.l4_at + 20)
      (word_list (source_write facts.l4_at sport dport facts.l4))
      (word_list (destination_write facts.l4_at sport dport facts.l4))
      (source-between facts.l4_at sport dport facts.l4)
      (destination-between facts.l4_at sport dport facts.l4) in
      each k
      ∙ unless-elsewhere change.neutral facts.l4_at (facts.l4_at + 20) u k _
      (upper_sum-between facts.l4_at bytes facts ends facts.l4) (inl below)
      ∙ ap (byte_there (unless change.neutral h) k)
      (after-elsewhere facts.l4_at (facts.l4_at + 20) p (λ _. byte_there (s ++ d) k (f k)) k by_p
      (inl below))

  -- the addresses change no other place
  addresses-elsewhere : (k : ℕ) → (k < source_at ip facts.src) ⊎ (ip + least_ip_header facts.src ≤ k)
      → byte_there (s ++ d) k (f k) ≡ f k
  addresses-elsewhere k (inl before) =
      let order = laid ip facts.src in
      byte_there-append s d k (f k)
      ∙ after-elsewhere _ _ d (λ _. byte_there s k (f k)) k by_d (inl (omega arith))
      ∙ after-elsewhere _ _ s f k by_s (inl before)
  addresses-elsewhere k (inr behind) =
      let order = laid ip facts.src in
      byte_there-append s d k (f k)
      ∙ after-elsewhere _ _ d (λ _. byte_there s k (f k)) k by_d (inr behind)
      ∙ after-elsewhere _ _ s f k by_s (inr (omega arith))

  pub sum-there : (k : ℕ) → k < source_at ip facts.src
      → g k ≡ byte_there (unless change.neutral h) k (f k)
  sum-there k before =
      let order = laid ip facts.src in
      in_header k (omega arith)
      ∙ ap (byte_there (unless change.neutral h) k) (addresses-elsewhere k (inl before))

  pub front-same : (k : ℕ) → k < front_at ip facts.src → g k ≡ f k
  front-same k before =
      let order = laid ip facts.src in
      sum-there k (omega arith) ∙ unless-elsewhere change.neutral _ _ h k _ by_h (inl before)

  pub addresses-there : (k : ℕ) → source_at ip facts.src ≤ k → k < facts.l4_at
      → g k ≡ byte_there (s ++ d) k (f k)
  addresses-there k from below =
      in_header k below ∙ unless-elsewhere change.neutral _ _ h k _ by_h (inr from)

  pub source-there : (k : ℕ) → source_at ip facts.src ≤ k
      → k < source_at ip facts.src + address_size facts.src → g k ≡ byte_there s k (f k)
  source-there k from below =
      let order = laid ip facts.src in
      addresses-there k from (omega arith) ∙ byte_there-append s d k (f k)
      ∙ after-elsewhere _ _ d (λ _. byte_there s k (f k)) k by_d (inl (omega arith))

  pub destination-there : (k : ℕ) → destination_at ip facts.src ≤ k
      → k < destination_at ip facts.src + address_size facts.src → g k ≡ byte_there d k (f k)
  destination-there k from below =
      let order = laid ip facts.src in
      addresses-there k (omega arith) (omega arith) ∙ byte_there-append s d k (f k)
      ∙ ap (byte_there d k) (after-elsewhere _ _ s f k by_s (inr from))

  pub options-same : (k : ℕ) → ip + least_ip_header facts.src ≤ k → k < facts.l4_at → g k ≡ f k
  options-same k from below =
      let order = laid ip facts.src in
      addresses-there k (omega arith) below ∙ addresses-elsewhere k (inr from)

  -- of what is carried
  pub carried-there : (k : ℕ) → facts.l4_at ≤ k
      → g k ≡ byte_there (unless change.neutral u) k (byte_there p k (f k))
  carried-there k from =
      let order = laid ip facts.src in
      each k
      ∙ ap (byte_there (unless change.neutral u) k)
      (unless-elsewhere change.neutral _ _ h k _ by_h (inr (omega arith))
      ∙ ap (byte_there p k) (addresses-elsewhere k (inr (omega arith))))

abbrev pub made : Addr → Addr → ℕ → ℕ → ℕ → ℕ → L4 → Facts
made src dst proto ip l4 end carried =
    record { src = src; dst = dst; proto = proto; ip_at = ip; l4_at = l4; end = end; l4 = carried }
