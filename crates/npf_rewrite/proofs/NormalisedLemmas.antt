-- What stands at each place of a normalised packet.
use Rattle.std.proofs.Common.{◌≡◌, ℕ, ◌+◌, ◌<◌, ◌≤◌, Bool, true, false, Option, Some, None, List, ◌++◌, length, ap, ◌∙◌, inl, inr, arith}
use Rattle.std.specs.Prelude.{◌==◌, ◌/◌, ◌%◌, if◌then◌else◌, slice_index}
use Rattle.npf_types.specs.declared.{action.Action.Action, address.Addr.{Addr, TheVariants.{V4, V6}}, facts.{Facts.Facts, L4.L4}}
use Rattle.npf_types.specs.declared.facts.L4.TheVariants.{Tcp, Udp, Icmp, Icmp6, Other}
use Rattle.npf_packet.specs.Place.{HasOptionAt}
use Rattle.npf_rewrite.specs.declared.word.WordAt.{WordAt}
use Rattle.npf_rewrite.specs.Normalised.{Normalised, cleared_fragment, header_writes, lowered_mss, lowered_to, mss_write, raised_ttl, segment_sum}
use Rattle.npf_rewrite.specs.{Room.HasRoom, Translated.{header_sum, source_at}, Word.{byte_there, word_list}}
use Rattle.npf_rewrite.proofs.{PlacedLemmas.{between-append, front_at, header_sum-between, laid}, TotalLemmas.{Between, after-elsewhere}}
use Rattle.npf_rewrite.proofs.WordLemmas.{byte_there-append}

-- one word or none
pub chosen-between : (lo hi : ℕ) (b : Bool) (w : WordAt) → lo ≤ w.at → w.at + 2 ≤ hi
    → Between lo hi (word_list (if b then Some w else None))
chosen-between lo hi true w from to = (from, (to, tt))
chosen-between lo hi false w from to = tt

raised-between : (bytes : List ℕ) (ip : ℕ) (src : Addr) (least : Option ℕ)
    → Between (ip + 6) (front_at ip src) (word_list (raised_ttl bytes ip src least))
raised-between bytes ip (V4 a) (Some least) = chosen-between _ _ _ _ (omega arith) (omega arith)
raised-between bytes ip (V6 a) (Some least) = chosen-between _ _ _ _ (omega arith) (omega arith)
raised-between bytes ip src None = tt

cleared-between : (bytes : List ℕ) (ip : ℕ) (src : Addr) (no_df : Bool)
    → Between (ip + 6) (front_at ip src) (word_list (cleared_fragment bytes ip src no_df))
cleared-between bytes ip (V4 a) true = chosen-between _ _ _ _ (omega arith) (omega arith)
cleared-between bytes ip (V4 a) false = tt
cleared-between bytes ip (V6 a) no_df = tt

lowered_to-between : (bytes : List ℕ) (lo hi most at : ℕ) → lo ≤ at → at + 2 ≤ hi
    → Between lo hi (word_list (lowered_to bytes most at))
lowered_to-between bytes lo hi most at from to = chosen-between _ _ _ _ from to

-- the number of a maximum segment size stands among the options
lowered-between : (bytes : List ℕ) (facts : Facts) (l4 : L4) (most : Option ℕ) → HasOptionAt facts l4
    → Between (facts.l4_at + 20) facts.end (word_list (lowered_mss bytes l4 most))
lowered-between bytes facts (Tcp _ _ segment (Some at)) (Some most) room = lowered-if (segment.flags / 2 % 2 == 1) where
  lowered-if : (b : Bool) → Between (facts.l4_at + 20) facts.end (word_list (if b then lowered_to bytes most at else None))
  lowered-if true = lowered_to-between bytes _ _ most at room.after (omega (arith, room.before))
  lowered-if false = tt
lowered-between bytes facts (Tcp _ _ segment None) (Some most) room = tt
lowered-between bytes facts (Udp _ _) (Some most) room = tt
lowered-between bytes facts (Icmp _ _ _) (Some most) room = tt
lowered-between bytes facts (Icmp6 _ _ _) (Some most) room = tt
lowered-between bytes facts Other (Some most) room = tt
lowered-between bytes facts l4 None room = tt

pub segment_sum-between : (bytes : List ℕ) (at : ℕ) (o : Option WordAt)
    → Between (at + 16) (at + 18) (word_list (segment_sum bytes at o))
segment_sum-between bytes at (Some w) = (omega arith, (omega arith, tt))
segment_sum-between bytes at None = tt

module _ (bytes normalised : List ℕ) (facts : Facts) (action : Action)
    (room : HasRoom (length bytes) facts)
    (n : Normalised bytes facts action normalised) where
  abbrev ip : ℕ
  ip = facts.ip_at

  abbrev h : List WordAt
  h = header_writes bytes facts action

  abbrev m : List WordAt
  m = word_list (mss_write bytes facts action)

  abbrev hs : List WordAt
  hs = word_list (header_sum bytes ip facts.src h)

  abbrev ms : List WordAt
  ms = word_list (segment_sum bytes facts.l4_at (mss_write bytes facts action))

  abbrev f : ℕ → ℕ
  f = slice_index bytes

  abbrev g : ℕ → ℕ
  g = slice_index normalised

  each : (k : ℕ) → g k ≡ byte_there ms k (byte_there hs k (byte_there m k (byte_there h k (f k))))
  each k =
      n.each k
      ∙ byte_there-append ((h ++ m) ++ hs) ms k (f k)
      ∙ ap (byte_there ms k) (byte_there-append (h ++ m) hs k (f k)
      ∙ ap (byte_there hs k) (byte_there-append h m k (f k)))

  by_h : Between (ip + 6) (front_at ip facts.src) h
  by_h = between-append (ip + 6) (front_at ip facts.src)
      (word_list (raised_ttl bytes ip facts.src action.min_ttl))
      (word_list (cleared_fragment bytes ip facts.src action.no_df))
      (raised-between bytes ip facts.src action.min_ttl)
      (cleared-between bytes ip facts.src action.no_df)

  by_m : Between (facts.l4_at + 20) facts.end m
  by_m = lowered-between bytes facts facts.l4 action.max_mss room.option

  by_hs : Between (front_at ip facts.src) (source_at ip facts.src) hs
  by_hs = header_sum-between bytes ip facts.src h

  by_ms : Between (facts.l4_at + 16) (facts.l4_at + 18) ms
  by_ms = segment_sum-between bytes facts.l4_at (mss_write bytes facts action)

  -- in front of what is carried
  pub in-header : (k : ℕ) → k < facts.l4_at → g k ≡ byte_there hs k (byte_there h k (f k))
  in-header k below =
      each k
      ∙ after-elsewhere _ _ ms (λ _. byte_there hs k (byte_there m k (byte_there h k (f k)))) k by_ms
      (inl (omega arith))
      ∙ ap (byte_there hs k)
      (after-elsewhere _ _ m (λ _. byte_there h k (f k)) k by_m (inl (omega arith)))

  pub front-stays : (k : ℕ) → k < ip + 6 → g k ≡ f k
  front-stays k below =
      let order = laid ip facts.src in
      in-header k (omega (arith, room.upper))
      ∙ after-elsewhere _ _ hs (λ _. byte_there h k (f k)) k by_hs (inl (omega arith))
      ∙ after-elsewhere _ _ h f k by_h (inl below)

  -- the addresses and all behind them in front of what is carried
  pub addresses-stay : (k : ℕ) → source_at ip facts.src ≤ k → k < facts.l4_at → g k ≡ f k
  addresses-stay k from below =
      let order = laid ip facts.src in
      in-header k below
      ∙ after-elsewhere _ _ hs (λ _. byte_there h k (f k)) k by_hs (inr from)
      ∙ after-elsewhere _ _ h f k by_h (inr (omega arith))

  -- of what is carried
  pub carried-is : (k : ℕ) → facts.l4_at ≤ k → g k ≡ byte_there ms k (byte_there m k (f k))
  carried-is k from =
      let order = laid ip facts.src in
      each k
      ∙ ap (λ x. byte_there ms k x)
      (after-elsewhere _ _ hs (λ _. byte_there m k (byte_there h k (f k))) k by_hs
      (inr (omega (arith, room.upper)))
      ∙ ap (byte_there m k) (after-elsewhere _ _ h f k by_h (inr (omega (arith, room.upper)))))
