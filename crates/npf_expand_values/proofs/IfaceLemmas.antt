-- An interface's place among the interfaces is that of its name among their names.
use Rattle.std.proofs.Common.{◌≡◌, ◌+◌, ◌<◌, length, ℕ, suc, Bool, true, false, Option, Some, None, List, [], ◌∷◌, get_or, map, if◌then◌else◌, refl, sym, ap, ◌∙◌, true≢false, arith}
use Rattle.std.{proofs.lemmas.{List.{get_or-map, get_or_default, length-map}, Slice.Eq.bytes_eq-Decides}, specs.{Option.option_map, Str.bytes_eq}}
use Rattle.std.{proofs.lemmas.Bool.false_from_ne_true, specs.List.filter}
use Rattle.npf_types.specs.{declared.{name.Name.Name, interface.IfId.IfId, address.Addr.{Addr, TheVariants.{V4, V6}}, span.Span.Span}, Name.name_bytes}
use Rattle.npf_model.specs.{declared.iface.Iface.Iface, Numbering.{is_named, number_of_name, number_of_place}, Verdict.first_where}
use Rattle.npf_syntax.specs.declared.value.Function.{Function}
use Rattle.npf_expand_values.specs.{declared.iface.Families.Families, Iface.{addresses_of_first, is_of}, Parted.{AreParted, iface_texts, is_v4, is_v6}}

bytes_eq-flip : (xs ys : List ℕ) (b : Bool) → bytes_eq xs ys ≡ b → bytes_eq ys xs ≡ b
bytes_eq-flip xs ys true is = (bytes_eq-Decides ys xs).1 (sym ((bytes_eq-Decides xs ys).0 is))
bytes_eq-flip xs ys false is = false_from_ne_true (bytes_eq ys xs) (λ h. true≢false (sym ((bytes_eq-Decides xs ys).1 (sym ((bytes_eq-Decides ys xs).0 h))) ∙ is))

pub iface_place : (ifaces : List Iface) (name : Name) (n : ℕ)
    → first_where (is_named name) (n + 1) ifaces
    ≡ option_map (λ place. place + 1) (first_where (bytes_eq (name_bytes name)) n (map (λ iface. name_bytes iface.name) ifaces))
iface_place [] name n = refl
iface_place (iface ∷ ifaces) name n =
    by (bytes_eq (name_bytes name) (name_bytes iface.name)) (bytes_eq (name_bytes iface.name) (name_bytes name))
    (bytes_eq-flip (name_bytes name) (name_bytes iface.name) _ refl) (iface_place ifaces name (n + 1)) where
      by : (b c : Bool) → c ≡ b
          → first_where (is_named name) (n + 1 + 1) ifaces ≡ option_map (λ place. place + 1) (first_where (bytes_eq (name_bytes name)) (n + 1) (map (λ i. name_bytes i.name) ifaces))
          → (if c then Some (n + 1) else first_where (is_named name) (n + 1 + 1) ifaces)
          ≡ option_map (λ place. place + 1) (if b then Some n else first_where (bytes_eq (name_bytes name)) (n + 1) (map (λ i. name_bytes i.name) ifaces))
      by true true is rest = refl
      by false false is rest = rest
      by true false is rest = cc
      by false true is rest = cc

abbrev pub if_id : ℕ → IfId
if_id number = record { 0 = number }

-- what the place of a name says is the interface's number
pub number_is : (ifaces : List Iface) (name : Name) (text : List ℕ) (found seen : Option ℕ) → text ≡ name_bytes name
    → found ≡ first_where (bytes_eq text) 0 (iface_texts ifaces) → found ≡ seen
    → if_id (number_of_place (option_map (λ place. place + 1) seen)) ≡ if_id (number_of_name ifaces name)
number_is ifaces name text found seen is at same =
    ap (λ o. if_id (number_of_place (option_map (λ place. place + 1) o))) (sym same ∙ at ∙ ap (λ t. first_where (bytes_eq t) 0 (iface_texts ifaces)) is)
    ∙ sym (ap (λ o. if_id (number_of_place o)) (iface_place ifaces name 0))

-- the interface at the place of its name is the first with it
pub record IsFirstNamed (ifaces : List Iface) (text : List ℕ) (n place : ℕ) : Type 0 where
  pub at : ℕ
  pub counted : place ≡ n + at
  pub within : at < length ifaces
  pub addrs : (d : Iface) → (get_or ifaces at d).addrs ≡ addresses_of_first ifaces text

first_named_by : (iface : Iface) (ifaces : List Iface) (text : List ℕ) (n place : ℕ) (b c : Bool) → bytes_eq (name_bytes iface.name) text ≡ b → c ≡ b
    → (if c then Some n else first_where (bytes_eq text) (n + 1) (iface_texts ifaces)) ≡ Some place
    → (first_where (bytes_eq text) (n + 1) (iface_texts ifaces) ≡ Some place → IsFirstNamed ifaces text (n + 1) place)
    → IsFirstNamed (iface ∷ ifaces) text n place
first_named_by iface ifaces text n place true true is same found later =
    let here : n ≡ place = cc in
    record { at = 0; counted = omega (arith, here); within = omega arith; addrs = λ d. rw is refl }
first_named_by iface ifaces text n place false false is same found later =
    let next = later found in
    record { at = suc next.at; counted = omega (arith, next.counted); within = omega (arith, next.within); addrs = λ d. next.addrs d ∙ rw is refl }
first_named_by iface ifaces text n place true false is same found later = cc
first_named_by iface ifaces text n place false true is same found later = cc

pub first_named : (ifaces : List Iface) (text : List ℕ) (n place : ℕ) → first_where (bytes_eq text) n (iface_texts ifaces) ≡ Some place → IsFirstNamed ifaces text n place
first_named [] text n place found = absurd (let none : None ≡ Some place = found in cc)
first_named (iface ∷ ifaces) text n place found =
    first_named_by iface ifaces text n place (bytes_eq (name_bytes iface.name) text) (bytes_eq text (name_bytes iface.name)) refl
    (bytes_eq-flip (name_bytes iface.name) text _ refl) found (first_named ifaces text (n + 1) place)

none_named_by : (iface : Iface) (ifaces : List Iface) (text : List ℕ) (n : ℕ) (b c : Bool) → bytes_eq (name_bytes iface.name) text ≡ b → c ≡ b
    → (if c then Some n else first_where (bytes_eq text) (n + 1) (iface_texts ifaces)) ≡ None
    → (first_where (bytes_eq text) (n + 1) (iface_texts ifaces) ≡ None → addresses_of_first ifaces text ≡ [])
    → addresses_of_first (iface ∷ ifaces) text ≡ []
none_named_by iface ifaces text n true true is same none later = cc
none_named_by iface ifaces text n false false is same none later = rw is (later none)
none_named_by iface ifaces text n true false is same none later = cc
none_named_by iface ifaces text n false true is same none later = cc

pub none_named : (ifaces : List Iface) (text : List ℕ) (n : ℕ) → first_where (bytes_eq text) n (iface_texts ifaces) ≡ None → addresses_of_first ifaces text ≡ []
none_named [] text n none = refl
none_named (iface ∷ ifaces) text n none =
    none_named_by iface ifaces text n (bytes_eq (name_bytes iface.name) text) (bytes_eq text (name_bytes iface.name)) refl
    (bytes_eq-flip (name_bytes iface.name) text _ refl) none (none_named ifaces text (n + 1))

same_filter : (p q : Addr → Bool) → ((addr : Addr) → p addr ≡ q addr) → (addrs : List Addr) → filter p addrs ≡ filter q addrs
same_filter p q same [] = refl
same_filter p q same (addr ∷ addrs) = ap (λ b. if b then addr ∷ filter p addrs else filter p addrs) (same addr)
    ∙ ap (λ rest. if q addr then addr ∷ rest else rest) (same_filter p q same addrs)

v4_is : (function : Function) (span : Span) (addr : Addr) → function ≡ Function.Inet4 span → is_v4 addr ≡ is_of function addr
v4_is function span (V4 _) is = rw is refl
v4_is function span (V6 _) is = rw is refl

v6_is : (function : Function) (span : Span) (addr : Addr) → function ≡ Function.Inet6 span → is_v6 addr ≡ is_of function addr
v6_is function span (V4 _) is = rw is refl
v6_is function span (V6 _) is = rw is refl

all_is : (function : Function) (span : Span) (addr : Addr) → function ≡ Function.IfAddrs span → true ≡ is_of function addr
all_is function span (V4 _) is = rw is refl
all_is function span (V6 _) is = rw is refl

every : (addrs : List Addr) → addrs ≡ filter (λ _. true) addrs
every [] = refl
every (addr ∷ addrs) = ap (λ rest. addr ∷ rest) (every addrs)

at_map : {X Y Z : Type 0} (f : X → Z) (g : Y → Z) (xs : List X) (ys : List Y) (i : ℕ) (x : X) (d : Y) → map f xs ≡ map g ys → i < length ys → x ≡ get_or xs i x
    → f x ≡ g (get_or ys i d)
at_map f g xs ys i x d same within is =
    let long = ap length same in
    let below : i < length xs = omega (arith, within, long, length-map xs f, length-map ys g) in
    ap f is ∙ sym (get_or-map f xs i x (f x) below) ∙ ap (λ zs. get_or zs i (f x)) same ∙ get_or-map g ys i d (f x) within

-- what a function gives of an interface
module _ (families : List Families) (ifaces : List Iface) (parted : AreParted families ifaces) (function : Function) (span : Span) (place : ℕ) (family : Families) (d : Iface)
    (within : place < length ifaces) (is : family ≡ get_or families place family) where
  pub v4_at : function ≡ Function.Inet4 span → family.v4.items ≡ filter (is_of function) (get_or ifaces place d).addrs
  v4_at of = at_map (λ (f : Families). f.v4.items) (λ (iface : Iface). filter is_v4 iface.addrs) families ifaces place family d parted.v4 within is
      ∙ same_filter is_v4 (is_of function) (λ addr. v4_is function span addr of) (get_or ifaces place d).addrs

  pub v6_at : function ≡ Function.Inet6 span → family.v6.items ≡ filter (is_of function) (get_or ifaces place d).addrs
  v6_at of = at_map (λ (f : Families). f.v6.items) (λ (iface : Iface). filter is_v6 iface.addrs) families ifaces place family d parted.v6 within is
      ∙ same_filter is_v6 (is_of function) (λ addr. v6_is function span addr of) (get_or ifaces place d).addrs

pub all_at : (ifaces : List Iface) (function : Function) (span : Span) (place : ℕ) (iface d : Iface) → place < length ifaces → iface ≡ get_or ifaces place iface
    → function ≡ Function.IfAddrs span → iface.addrs ≡ filter (is_of function) (get_or ifaces place d).addrs
all_at ifaces function span place iface d within is of =
    ap (λ (i : Iface). i.addrs) (is ∙ get_or_default ifaces place iface d within) ∙ every (get_or ifaces place d).addrs
    ∙ same_filter (λ _. true) (is_of function) (λ addr. all_is function span addr of) (get_or ifaces place d).addrs
