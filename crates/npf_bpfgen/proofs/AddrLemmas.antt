-- The tests of addresses.
use Rattle.std.proofs.Common.{append_assoc, ◌≡◌, ℕ, suc, ◌+◌, ◌-◌, ◌<◌, ◌≤◌, Bool, true, false, List, [], ◌∷◌, ◌++◌, length, get_or, drop, Some, None, refl, sym, ap, subst, ◌∙◌, arith}
use Rattle.std.{specs.{List.{list_any, sum_by}, Prelude.{◌/◌, ◌%◌, ◌^◌, ◌*◌, ◌==◌, ◌&&◌, ◌||◌, if◌then◌else◌, min, nat_le, nat_lt, not}}, proofs.Math.{Nat.min-le_right, Seq.drop-length}}
use Rattle.std.proofs.lemmas.{Bool.{eq-eqb, le-leb, lt-leb}, List.{length-append, Sums.sum_by-drop_more}}
use Rattle.npf_types.specs.{declared.{address.Addr.{Addr, TheVariants.{V4, V6}}, facts.Facts.Facts}, Address.{first_bits, shares_first}}
use Rattle.npf_fields.specs.Field.{number32, number64, number128}
use Rattle.npf_model.specs.{declared.ends.AddrItem.{AddrItem, TheVariants.{Net, InTable}}, Describes.{Tables, fits_addrs, is_v6, item_allows, item_has, list_allows, table_has}}
use Rattle.npf_packet.specs.{PacketField.HasIpHeader, Place.least_ip_header}
use Rattle.npf_bpf.specs.{declared.insn.Insn.Insn, Coprocessor.Coprocessor}
use Rattle.npf_bpfgen.specs.declared.endpoint.Endpoint.{Endpoint, TheVariants.{Source, Destination}}
use Rattle.npf_bpfgen.specs.Endpoint.{address_of, asked_table, ipv4_place, ipv6_place}
use Rattle.npf_bpfgen.specs.Instruction.{ask_member, first_bits_of_half, first_bits_of_word, if_equal, jump, load_constant, load_memory, return_number, shift_right}
use Rattle.npf_bpfgen.specs.{Condition.allows_family, Premise.{AreBytes, BranchesOnPacket, GuardsPacket, Tells, header_words, ip_version}, ProgramLength.{block_length, item_length}}
use Rattle.npf_bpfgen.{specs.Tail.{Extends, Guards, Yields}, proofs.StepLemmas.{asks_member, equal, forget, is_equal, is_unequal, loads_version, loads_word, returns, shifts}}
use Rattle.npf_bpfgen.proofs.ProgramLemmas.{guards_both}
use Rattle.npf_bpfgen.proofs.TailLemmas.{any_more, extended, grown, member_extended, member_guards, over_return}
use Rattle.npf_bpfgen.proofs.WordLemmas.{eq_turned, number32_below, number64_below, shared_by_words, shifted_word, word_loaded}

both_chosen : (a b : Bool) (x y : ℕ) → (if a then (if b then x else y) else y) ≡ (if a && b then x else y)
both_chosen true b x y = refl
both_chosen false b x y = refl

module _ (p : List ℕ) (cop : Coprocessor) (header : ℕ × ℕ × ℕ) (bytes : AreBytes p) where
  -- a word of the packet has the first bits of another
  word_yields : (old : List Insn) (at bits word far x y : ℕ) → at + 4 ≤ length p → bits ≤ 32
      → Yields p cop header None old 0 x → Yields p cop header None old far y
      → Yields p cop header None (first_bits_of_word at bits word far old) 0
      (if first_bits 32 bits word == first_bits 32 bits (number32 p at) then x else y)
  word_yields old at bits word far x y room within at_old at_far =
      let w : ℕ = number32 p at in
      let k : ℕ = first_bits 32 bits word in
      let v : ℕ = if nat_lt (32 - bits) 32 then w / 2 ^ (32 - bits) else 0 in
      let z : ℕ = if v == k then x else y in
      subst (Yields p cop header None (first_bits_of_word at bits word far old) 0)
      (ap (λ (n : ℕ). if n == k then x else y) (shifted_word bits w (number32_below p bytes at) within)
      ∙ ap (λ (t : Bool). if t then x else y) (eq_turned (first_bits 32 bits w) k))
      (loads_word p cop header (shift_right (32 - bits) ∷ if_equal k 0 far ∷ old) z None at w (word_loaded p at room)
      (shifts p cop header (if_equal k 0 far ∷ old) z w (32 - bits)
      (equal p cop header old x y v k 0 far (forget p cop header (Some v) old 0 x at_old) (forget p cop header (Some v) old far y at_far))))

  -- and two words those of another two
  half_yields : (old : List Insn) (at bits half far x y : ℕ) → at + 8 ≤ length p → bits ≤ 64
      → Yields p cop header None old 0 x → Yields p cop header None old far y
      → Yields p cop header None (first_bits_of_half at bits half far old) 0
      (if first_bits 64 bits half == first_bits 64 bits (number64 p at) then x else y)
  half_yields old at bits half far x y room within at_old at_far =
      let high : ℕ = half / 2 ^ 32 in
      let low : ℕ = half % 2 ^ 32 in
      let behind = first_bits_of_word (at + 4) (bits - 32) low far old in
      let a : Bool = first_bits 32 (min bits 32) high == first_bits 32 (min bits 32) (number32 p at) in
      let b : Bool = first_bits 32 (bits - 32) low == first_bits 32 (bits - 32) (number32 p (at + 4)) in
      let whole : half ≡ 2 ^ 32 * high + low = omega arith in
      let far_on : suc (suc (suc far)) ≡ far + 3 = omega arith in
      let low_below : low < 2 ^ 32 = omega arith in
      subst (Yields p cop header None (first_bits_of_half at bits half far old) 0)
      (both_chosen a b x y
      ∙ ap (λ (t : Bool). if t then x else y)
      (sym (shared_by_words 32 bits high low (number32 p at) (number32 p (at + 4)) low_below (number32_below p bytes (at + 4)) within))
      ∙ ap (λ (n : ℕ). if first_bits 64 bits n == first_bits 64 bits (number64 p at) then x else y) (sym whole))
      (word_yields behind at (min bits 32) high (far + 3) (if b then x else y) y (omega (arith, room)) (min-le_right bits 32)
      (word_yields old (at + 4) (bits - 32) low far x y (omega (arith, room)) (omega (arith, within)) at_old at_far)
      (subst (λ (n : ℕ). Yields p cop header None behind n y) far_on at_far))

abbrev chosen_address : Endpoint → Addr → Addr → Addr
chosen_address Source src dst = src
chosen_address Destination src dst = dst

address_is : (e : Endpoint) (facts : Facts) → address_of e facts ≡ chosen_address e facts.src facts.dst
address_is Source facts = refl
address_is Destination facts = refl

abbrev pub block_v4_test : ℕ → ℕ → ℕ → List Insn → List Insn
block_v4_test at len addr old = load_memory 0 ∷ if_equal 4 0 4 ∷ first_bits_of_word at len addr 1 old

abbrev pub block_v6_test : ℕ → ℕ → ℕ → List Insn → List Insn
block_v6_test at len addr old =
    load_memory 0 ∷ if_equal 6 0 13 ∷ first_bits_of_half at (min len 64) (addr / 2 ^ 64) 7
    (first_bits_of_half (at + 8) (len - 64) (addr % 2 ^ 64) 1 old)

module _ (p : List ℕ) (cop : Coprocessor) (header : ℕ × ℕ × ℕ) (bytes : AreBytes p) (old : List Insn) (len addr x y : ℕ)
    (at_first : Yields p cop header None old 0 x) (at_second : Yields p cop header None old 1 y) where
  in_v4 : (at : ℕ) → header.0 ≡ 4 → at + 4 ≤ length p → len ≤ 32
      → Yields p cop header None (block_v4_test at len addr old) 0
      (if first_bits 32 len addr == first_bits 32 len (number32 p at) then x else y)
  in_v4 at version room within =
      let z : ℕ = if first_bits 32 len addr == first_bits 32 len (number32 p at) then x else y in
      let behind = first_bits_of_word at len addr 1 old in
      loads_version p cop header (if_equal 4 0 4 ∷ behind) z None
      (is_equal p cop header behind z header.0 4 0 4 (eq-eqb header.0 4 version)
      (forget p cop header (Some header.0) behind 0 z
      (word_yields p cop header bytes old at len addr 1 x y room within at_first at_second)))

  v4_not_v6 : (at : ℕ) → header.0 ≡ 6 → Yields p cop header None (block_v4_test at len addr old) 0 y
  v4_not_v6 at version =
      let behind = first_bits_of_word at len addr 1 old in
      loads_version p cop header (if_equal 4 0 4 ∷ behind) y None
      (is_unequal p cop header behind y header.0 4 0 4 (ap (λ (n : ℕ). n == 4) version)
      (forget p cop header (Some header.0) old 1 y at_second))

  in_v6 : (at : ℕ) → header.0 ≡ 6 → at + 16 ≤ length p → len ≤ 128
      → Yields p cop header None (block_v6_test at len addr old) 0
      (if first_bits 128 len addr == first_bits 128 len (number128 p at) then x else y)
  in_v6 at version room within =
      let high : ℕ = addr / 2 ^ 64 in
      let low : ℕ = addr % 2 ^ 64 in
      let mid = first_bits_of_half (at + 8) (len - 64) low 1 old in
      let behind = first_bits_of_half at (min len 64) high 7 mid in
      let a : Bool = first_bits 64 (min len 64) high == first_bits 64 (min len 64) (number64 p at) in
      let b : Bool = first_bits 64 (len - 64) low == first_bits 64 (len - 64) (number64 p (at + 8)) in
      let z : ℕ = if a then (if b then x else y) else y in
      let whole : addr ≡ 2 ^ 64 * high + low = omega arith in
      let low_below : low < 2 ^ 64 = omega arith in
      subst (Yields p cop header None (block_v6_test at len addr old) 0)
      (both_chosen a b x y
      ∙ ap (λ (t : Bool). if t then x else y)
      (sym (shared_by_words 64 len high low (number64 p at) (number64 p (at + 8)) low_below (number64_below p bytes (at + 8)) within))
      ∙ ap (λ (n : ℕ). if first_bits 128 len n == first_bits 128 len (number128 p at) then x else y) (sym whole))
      (loads_version p cop header (if_equal 6 0 13 ∷ behind) z None
      (is_equal p cop header behind z header.0 6 0 13 (eq-eqb header.0 6 version)
      (forget p cop header (Some header.0) behind 0 z
      (half_yields p cop header bytes mid at (min len 64) high 7 (if b then x else y) y (omega (arith, room)) (min-le_right len 64)
      (half_yields p cop header bytes old (at + 8) (len - 64) low 1 x y (omega (arith, room)) (omega (arith, within)) at_first at_second)
      at_second))))

  v6_not_v4 : (at : ℕ) → header.0 ≡ 4 → Yields p cop header None (block_v6_test at len addr old) 0 y
  v6_not_v4 at version =
      let mid = first_bits_of_half (at + 8) (len - 64) (addr % 2 ^ 64) 1 old in
      let behind = first_bits_of_half at (min len 64) (addr / 2 ^ 64) 7 mid in
      loads_version p cop header (if_equal 6 0 13 ∷ behind) y None
      (is_unequal p cop header behind y header.0 6 0 13 (ap (λ (n : ℕ). n == 6) version)
      (forget p cop header (Some header.0) old 1 y at_second))

  v4_yields : (e : Endpoint) (src dst : Addr) (upper proto : ℕ) → header.0 ≡ ip_version src → least_ip_header src ≤ length p
      → HasIpHeader p 0 upper proto src dst → len ≤ 32
      → Yields p cop header None (block_v4_test (ipv4_place e) len addr old) 0
      (if shares_first len (V4 addr) (chosen_address e src dst) then x else y)
  v4_yields Source (V4 s) (V4 d) upper proto version room has within =
      subst (λ (n : ℕ). Yields p cop header None (block_v4_test 12 len addr old) 0 (if first_bits 32 len addr == first_bits 32 len n then x else y))
      has.source (in_v4 12 version (omega (arith, room)) within)
  v4_yields Destination (V4 s) (V4 d) upper proto version room has within =
      subst (λ (n : ℕ). Yields p cop header None (block_v4_test 16 len addr old) 0 (if first_bits 32 len addr == first_bits 32 len n then x else y))
      has.destination (in_v4 16 version (omega (arith, room)) within)
  v4_yields Source (V6 s) (V6 d) upper proto version room has within = v4_not_v6 12 version
  v4_yields Destination (V6 s) (V6 d) upper proto version room has within = v4_not_v6 16 version
  v4_yields e (V4 s) (V6 d) upper proto version room has within = absurd has
  v4_yields e (V6 s) (V4 d) upper proto version room has within = absurd has

  v6_yields : (e : Endpoint) (src dst : Addr) (upper proto : ℕ) → header.0 ≡ ip_version src → least_ip_header src ≤ length p
      → HasIpHeader p 0 upper proto src dst → len ≤ 128
      → Yields p cop header None (block_v6_test (ipv6_place e) len addr old) 0
      (if shares_first len (V6 addr) (chosen_address e src dst) then x else y)
  v6_yields Source (V6 s) (V6 d) upper proto version room has within =
      subst (λ (n : ℕ). Yields p cop header None (block_v6_test 8 len addr old) 0 (if first_bits 128 len addr == first_bits 128 len n then x else y))
      has.source (in_v6 8 version (omega (arith, room)) within)
  v6_yields Destination (V6 s) (V6 d) upper proto version room has within =
      subst (λ (n : ℕ). Yields p cop header None (block_v6_test 24 len addr old) 0 (if first_bits 128 len addr == first_bits 128 len n then x else y))
      has.destination (in_v6 24 version (omega (arith, room)) within)
  v6_yields Source (V4 s) (V4 d) upper proto version room has within = v6_not_v4 8 version
  v6_yields Destination (V4 s) (V4 d) upper proto version room has within = v6_not_v4 24 version
  v6_yields e (V4 s) (V6 d) upper proto version room has within = absurd has
  v6_yields e (V6 s) (V4 d) upper proto version room has within = absurd has

module _ (e : Endpoint) (len addr : ℕ) (old new : List Insn) where
  pub block_v4_branches : len ≤ 32 → new ≡ block_v4_test (ipv4_place e) len addr old
      → BranchesOnPacket (λ tables facts. shares_first len (V4 addr) (address_of e facts)) old new
  block_v4_branches within is = λ p cop tables facts seen first second at_first at_second.
      let h : ℕ × ℕ × ℕ = header_words facts in
      subst (λ (code : List Insn). Yields p cop h None code 0 (if shares_first len (V4 addr) (address_of e facts) then first else second)) (sym is)
      (subst (λ (a : Addr). Yields p cop h None (block_v4_test (ipv4_place e) len addr old) 0 (if shares_first len (V4 addr) a then first else second))
      (sym (address_is e facts))
      (v4_yields p cop h seen.bytes old len addr first second at_first at_second e facts.src facts.dst h.1 facts.proto refl
      (omega (arith, seen.packet.upper, seen.packet.upper_header)) seen.packet.fields.header within))

  pub block_v6_branches : len ≤ 128 → new ≡ block_v6_test (ipv6_place e) len addr old
      → BranchesOnPacket (λ tables facts. shares_first len (V6 addr) (address_of e facts)) old new
  block_v6_branches within is = λ p cop tables facts seen first second at_first at_second.
      let h : ℕ × ℕ × ℕ = header_words facts in
      subst (λ (code : List Insn). Yields p cop h None code 0 (if shares_first len (V6 addr) (address_of e facts) then first else second)) (sym is)
      (subst (λ (a : Addr). Yields p cop h None (block_v6_test (ipv6_place e) len addr old) 0 (if shares_first len (V6 addr) a then first else second))
      (sym (address_is e facts))
      (v6_yields p cop h seen.bytes old len addr first second at_first at_second e facts.src facts.dst h.1 facts.proto refl
      (omega (arith, seen.packet.upper, seen.packet.upper_header)) seen.packet.fields.header within))

abbrev pub table_test : ℕ → List Insn
table_test asked = load_constant asked ∷ ask_member ∷ if_equal 1 0 1 ∷ []

told_member : (e : Endpoint) (table : ℕ) (cop : Coprocessor) (tables : Tables) (facts : Facts) → table < 2 ^ 31
    → Tells cop tables facts
    → cop.member (asked_table e table % 2 ^ 31) (nat_le (2 ^ 31) (asked_table e table)) ≡ table_has tables table (address_of e facts)
told_member Source table cop tables facts below told =
    let number : (table + 2 ^ 31) % 2 ^ 31 ≡ table = omega arith in
    ap (λ (n : ℕ). cop.member n (nat_le (2 ^ 31) (table + 2 ^ 31))) number
    ∙ ap (cop.member table) (le-leb (2 ^ 31) (table + 2 ^ 31) (omega arith)) ∙ told.source table
told_member Destination table cop tables facts below told =
    let number : table % 2 ^ 31 ≡ table = omega arith in
    ap (λ (n : ℕ). cop.member n (nat_le (2 ^ 31) table)) number
    ∙ ap (cop.member table) (lt-leb (2 ^ 31) table below) ∙ told.destination table

one_if : (has : Bool) (x y : ℕ) → (if (if has then 1 else 0) == 1 then x else y) ≡ (if has then x else y)
one_if true x y = refl
one_if false x y = refl

pub table_branches : (e : Endpoint) (table : ℕ) (old new : List Insn) → table < 2 ^ 31
    → new ≡ table_test (asked_table e table) ++ old
    → BranchesOnPacket (λ tables facts. table_has tables table (address_of e facts)) old new
table_branches e table old new below is = λ p cop tables facts seen first second at_first at_second.
    let h : ℕ × ℕ × ℕ = header_words facts in
    let has : Bool = table_has tables table (address_of e facts) in
    let v : ℕ = if has then 1 else 0 in
    subst (λ (code : List Insn). Yields p cop h None code 0 (if has then first else second)) (sym is)
    (subst (Yields p cop h None (table_test (asked_table e table) ++ old) 0) (one_if has first second)
    (asks_member p cop h (if_equal 1 0 1 ∷ old) (if v == 1 then first else second) None (asked_table e table) has
    (told_member e table cop tables facts below seen.told)
    (equal p cop h old first second v 1 0 1 (forget p cop h (Some v) old 0 first at_first) (forget p cop h (Some v) old 1 second at_second))))

some_of_block : (addr : Addr) → 1 ≤ block_length addr
some_of_block (V4 a) = omega arith
some_of_block (V6 a) = omega arith

some_of_item : (item : AddrItem) → 1 ≤ item_length item
some_of_item (Net prefix) = some_of_block prefix.addr
some_of_item (InTable table) = omega arith

-- one more item of a list
pub items_more : (e : Endpoint) (items : List AddrItem) (left more over : ℕ) (d : AddrItem) (base tail new : List Insn)
    → more ≡ left + 1 → left < length items
    → Extends (1 + sum_by item_length (drop more items)) 1 base tail
    → GuardsPacket (λ tables facts. fits_addrs false (Some (drop more items)) tables (address_of e facts)) base tail
    → over ≡ length tail - length base
    → Extends (item_length (get_or items left d) - 1) 2 (jump over ∷ tail) new
    → BranchesOnPacket (λ tables facts. item_has tables (address_of e facts) (get_or items left d)) (jump over ∷ tail) new
    → Extends (1 + sum_by item_length (drop left items)) 1 base new
    × GuardsPacket (λ tables facts. fits_addrs false (Some (drop left items)) tables (address_of e facts)) base new
items_more e items left more over d base tail new next within front guards distance item branches =
    let n : ℕ = 1 + sum_by item_length (drop more items) in
    let m : ℕ = item_length (get_or items left d) - 1 in
    let some : 1 ≤ item_length (get_or items left d) = some_of_item (get_or items left d) in
    let sum : sum_by item_length (drop left items) ≡ item_length (get_or items left d) + sum_by item_length (drop more items) =
    sum_by-drop_more item_length items left d within
    ∙ ap (λ (k : ℕ). item_length (get_or items left d) + sum_by item_length (drop k items)) (sym next) in (
      member_extended base tail new n m over front distance item _ (omega arith),
      λ p cop tables facts seen x y.
          subst (λ (t : Bool). Yields p cop (header_words facts) None new 0 (if t then x else 0))
          (sym (any_more (item_has tables (address_of e facts)) items left more d (omega (arith, next)) within))
          (member_guards base tail new n m over front distance item p cop (header_words facts) None
          (list_any (item_has tables (address_of e facts)) (drop more items))
          (item_has tables (address_of e facts) (get_or items left d))
          (guards p cop tables facts seen) (branches p cop tables facts seen) x y),
    )

-- where an item of an excluded list has the address, 0 is returned
absent_chosen : (test b : Bool) (x : ℕ) → (if test then 0 else (if not b then x else 0)) ≡ (if not (test || b) then x else 0)
absent_chosen true b x = refl
absent_chosen false b x = refl

-- behind the end of a list no item has the address
pub none_absent : (e : Endpoint) (items : List AddrItem) (old : List Insn)
    → GuardsPacket (λ tables facts. not (list_any (item_has tables (address_of e facts)) (drop (length items) items))) old old
none_absent e items old = λ p cop tables facts seen x y.
    subst (λ (xs : List AddrItem). Yields p cop (header_words facts) None old 0 (if not (list_any (item_has tables (address_of e facts)) xs) then x else 0))
    (sym (drop-length items)) y

-- one more item of an excluded list
pub absent_more : (e : Endpoint) (items : List AddrItem) (left more : ℕ) (d : AddrItem) (base tail new : List Insn)
    → more ≡ left + 1 → left < length items
    → Extends (sum_by item_length (drop more items)) 1 base tail
    → GuardsPacket (λ tables facts. not (list_any (item_has tables (address_of e facts)) (drop more items))) base tail
    → Extends (item_length (get_or items left d) - 1) 2 (return_number 0 ∷ tail) new
    → BranchesOnPacket (λ tables facts. item_has tables (address_of e facts) (get_or items left d)) (return_number 0 ∷ tail) new
    → Extends (sum_by item_length (drop left items)) 1 base new
    × GuardsPacket (λ tables facts. not (list_any (item_has tables (address_of e facts)) (drop left items))) base new
absent_more e items left more d base tail new next within front guards item branches =
    let n : ℕ = sum_by item_length (drop more items) in
    let m : ℕ = item_length (get_or items left d) - 1 in
    let some : 1 ≤ item_length (get_or items left d) = some_of_item (get_or items left d) in
    let sum : sum_by item_length (drop left items) ≡ item_length (get_or items left d) + sum_by item_length (drop more items) =
    sum_by-drop_more item_length items left d within
    ∙ ap (λ (k : ℕ). item_length (get_or items left d) + sum_by item_length (drop k items)) (sym next) in
    let returned = extended (return_number 0 ∷ []) tail (return_number 0 ∷ tail) 1 1 refl refl refl in (
      record {
        front = item.front ++ return_number 0 ∷ front.front;
        is = item.is ∙ ap (λ (t : List Insn). item.front ++ return_number 0 ∷ t) front.is ∙ sym (append_assoc item.front (return_number 0 ∷ front.front) base);
        size = omega (arith, item.size, front.size, length-append item.front (return_number 0 ∷ front.front), sum, some);
        valid = λ some_base valid.
            item.valid (omega (arith, grown base tail n 1 front, some_base))
            (returned.valid (omega (arith, grown base tail n 1 front, some_base)) (front.valid some_base valid));
      },
      λ p cop tables facts seen x y.
          let h : ℕ × ℕ × ℕ = header_words facts in
          let has : AddrItem → Bool = item_has tables (address_of e facts) in
          let rest : ℕ = if not (list_any has (drop more items)) then x else 0 in
          subst (λ (t : Bool). Yields p cop h None new 0 (if not t then x else 0))
          (sym (any_more has items left more d (omega (arith, next)) within))
          (subst (Yields p cop h None new 0) (absent_chosen (has (get_or items left d)) (list_any has (drop more items)) x)
          (branches p cop tables facts seen 0 rest (returns p cop h tail 0 None 0)
          (over_return p cop h None tail rest (guards p cop tables facts seen x y)))),
    )

-- both ends of a packet are of one family
same_family : (p : List ℕ) (e : Endpoint) (src dst : Addr) (upper proto : ℕ) → HasIpHeader p 0 upper proto src dst
    → is_v6 (chosen_address e src dst) ≡ is_v6 src
same_family p Source src dst upper proto has = refl
same_family p Destination (V4 s) (V4 d) upper proto has = refl
same_family p Destination (V6 s) (V6 d) upper proto has = refl
same_family p Destination (V4 s) (V6 d) upper proto has = absurd has
same_family p Destination (V6 s) (V4 d) upper proto has = absurd has

listed_families : (items : List AddrItem) (v6 : Bool)
    → (if v6 then list_any (item_allows true) items else list_any (item_allows false) items) ≡ list_allows v6 (Some items)
listed_families items true = refl
listed_families items false = refl

-- the families of an excluded list in front of its items
pub excluded_guards : (e : Endpoint) (items : List AddrItem) (old mid new : List Insn)
    → GuardsPacket (λ tables facts. not (list_any (item_has tables (address_of e facts)) items)) old mid
    → GuardsPacket (λ tables facts. allows_family (list_any (item_allows false) items) (list_any (item_allows true) items) facts.src) mid new
    → GuardsPacket (λ tables facts. fits_addrs true (Some items) tables (address_of e facts)) old new
excluded_guards e items old mid new absent families =
    guards_both (λ tables facts. list_allows (is_v6 (address_of e facts)) (Some items))
    (λ tables facts. not (list_any (item_has tables (address_of e facts)) items)) old mid new absent
    (λ p cop tables facts seen.
    let version : is_v6 (address_of e facts) ≡ is_v6 facts.src =
    ap is_v6 (address_is e facts) ∙ same_family p e facts.src facts.dst (header_words facts).1 facts.proto seen.packet.fields.header in
    subst (λ (t : Bool). Guards p cop (header_words facts) None t mid new)
    (listed_families items (is_v6 facts.src) ∙ ap (λ (v6 : Bool). list_allows v6 (Some items)) (sym version))
    (families p cop tables facts seen))
