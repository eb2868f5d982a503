-- A file of interfaces is read in one way, or its first bad line is one.
use Rattle.std.proofs.Common.{◌≡◌, ◌≢◌, ◌<◌, ℕ, Some, inl, inr, List, [], ◌∷◌, ◌++◌, length, map, take, refl, sym, ap, subst, ◌∙◌, arith, slice_get, Contains}
use Rattle.std.{specs.{Prelude.{◌⊎◌, suc, zero}, List.{AllPairs, filter}}, proofs.lemmas.Bool.cases_order}
use Rattle.std.proofs.lemmas.{List.{get_or_append_left, get_or_at, length-append, map-append, Elements.filter-append}, Option.{none-some, same_Some}}
use Rattle.npf_types.{specs.{declared.{address.Addr.Addr, name.Name.Name}, AddressText.IsAddressText}, proofs.AddressTextLemmas.one_address}
use Rattle.npf_faults.specs.declared.fault.{ConfFault.ConfFault, Fault.TheVariants.BadIfaceFile}
use Rattle.npf_model.specs.declared.iface.Iface.{Iface}
use Rattle.npf_expand_interfaces.specs.IfaceFile.{AreInterfaces, Each, IsBadBehind, IsFirstBadIfaceLine, IsIfaceFile, IsInterface, file_lines}
use Rattle.npf_expand_interfaces.specs.IfaceFile.{has_some, iface_names, line_start, line_words, written_lines}

-- what the words of a line say is one
addresses_same : (words : List (List ℕ)) (one other : List Addr) → Each IsAddressText words one → Each IsAddressText words other → one ≡ other
addresses_same [] [] [] is there = refl
addresses_same (word ∷ words) (a ∷ one) (b ∷ other) is there =
    ap (λ (addr : Addr). addr ∷ one) (one_address word a b is.0 there.0) ∙ ap (λ (addrs : List Addr). b ∷ addrs) (addresses_same words one other is.1 there.1)
addresses_same [] (a ∷ one) other is there = absurd is
addresses_same [] [] (b ∷ other) is there = absurd there
addresses_same (word ∷ words) [] other is there = absurd is
addresses_same (word ∷ words) (a ∷ one) [] is there = absurd there

interface_same : (words : List (List ℕ)) (one other : Iface) → IsInterface words one → IsInterface words other → one ≡ other
interface_same [] one other is there = absurd is
interface_same (word ∷ words) one other is there =
    ap (λ (name : Name). record { name = name; addrs = one.addrs }) (is.1 ∙ sym there.1)
    ∙ ap (λ (addrs : List Addr). record { name = other.name; addrs = addrs }) (addresses_same words one.addrs other.addrs is.2 there.2)

interfaces_same : (all : List (List (List ℕ))) (one other : List Iface) → Each IsInterface all one → Each IsInterface all other → one ≡ other
interfaces_same [] [] [] is there = refl
interfaces_same (words ∷ all) (a ∷ one) (b ∷ other) is there =
    ap (λ (iface : Iface). iface ∷ one) (interface_same words a b is.0 there.0) ∙ ap (λ (ifaces : List Iface). b ∷ ifaces) (interfaces_same all one other is.1 there.1)
interfaces_same [] (a ∷ one) other is there = absurd is
interfaces_same [] [] (b ∷ other) is there = absurd there
interfaces_same (words ∷ all) [] other is there = absurd is
interfaces_same (words ∷ all) (a ∷ one) [] is there = absurd there

pub one_iface_file : (text : List ℕ) (one other : List Iface) → IsIfaceFile text one → IsIfaceFile text other → one ≡ other
one_iface_file text one other is there = interfaces_same (written_lines (file_lines text)) one other is.read there.read

-- what goes with a line that isn't blank, and with those in front of it
record GoesWith (words : List (List (List ℕ))) (own : List (List ℕ)) (ifaces : List Iface) : Type 0 where
  pub front : List Iface
  pub iface : Iface
  pub behind : List Iface
  pub are : ifaces ≡ front ++ iface ∷ behind
  pub read : Each IsInterface words front
  pub is : IsInterface own iface

goes_more : (words : List (List (List ℕ))) (first own : List (List ℕ)) (iface : Iface) (ifaces : List Iface) → IsInterface first iface → GoesWith words own ifaces
    → GoesWith (first ∷ words) own (iface ∷ ifaces)
goes_more words first own iface ifaces is goes = record {
  front = iface ∷ goes.front;
  iface = goes.iface;
  behind = goes.behind;
  are = ap (λ (all : List Iface). iface ∷ all) goes.are;
  read = (is, goes.read);
  is = goes.is;
}

goes_with : (words behind : List (List (List ℕ))) (own : List (List ℕ)) (ifaces : List Iface) → Each IsInterface (words ++ own ∷ behind) ifaces → GoesWith words own ifaces
goes_with [] behind own [] each = absurd each
goes_with [] behind own (iface ∷ ifaces) each = record { front = []; iface = iface; behind = ifaces; are = refl; read = tt; is = each.0 }
goes_with (first ∷ words) behind own [] each = absurd each
goes_with (first ∷ words) behind own (iface ∷ ifaces) each = goes_more words first own iface ifaces each.0 (goes_with words behind own ifaces each.1)

kept_first : (words : List (List ℕ)) (rest : List (List (List ℕ))) → words ≢ [] → filter has_some (words ∷ rest) ≡ words ∷ filter has_some rest
kept_first [] rest not = absurd (not refl)
kept_first (word ∷ words) rest not = refl

-- behind its interfaces a file that is read has no bad line
module _ (front behind : List (List ℕ)) (line : List ℕ) (earlier ifaces : List Iface) (are : AreInterfaces (front ++ line ∷ behind) ifaces) (good : AreInterfaces front earlier)
    (bad : IsBadBehind earlier line) where
  written_here : written_lines (front ++ line ∷ behind) ≡ written_lines front ++ line_words line ∷ written_lines behind
  written_here =
      ap (filter has_some) (map-append line_words front (line ∷ behind)) ∙ filter-append has_some (map line_words front) (line_words line ∷ map line_words behind)
      ∙ ap (λ rest. written_lines front ++ rest) (kept_first (line_words line) (map line_words behind) bad.0)

  goes : GoesWith (written_lines front) (line_words line) ifaces
  goes = goes_with (written_lines front) (written_lines behind) (line_words line) ifaces (subst (λ (all : List (List (List ℕ))). Each IsInterface all ifaces) written_here are.read)

  known : earlier ≡ goes.front
  known = interfaces_same (written_lines front) earlier goes.front good.read goes.read

  names : iface_names ifaces ≡ iface_names earlier ++ goes.iface.name ∷ iface_names goes.behind
  names =
      ap iface_names (goes.are ∙ ap (λ (all : List Iface). all ++ goes.iface ∷ goes.behind) (sym known))
      ∙ map-append (λ (iface : Iface). iface.name) earlier (goes.iface ∷ goes.behind)

  never : ⊥
  never =
      let name = goes.iface.name in
      let was : Contains (iface_names earlier) name = bad.1 goes.iface goes.is in
      let all = iface_names earlier ++ name ∷ iface_names goes.behind in
      let once : AllPairs (λ one other. one ≢ other) all = subst (λ (xs : List Name). AllPairs (λ one other. one ≢ other) xs) names are.once in
      let long = length-append (iface_names earlier) (name ∷ iface_names goes.behind) in
      let below = was.1 in
      once was.0 (length (iface_names earlier)) name below (omega (arith, long))
      (get_or_append_left (iface_names earlier) (name ∷ iface_names goes.behind) name was.0 below ∙ was.2
      ∙ sym (get_or_at (iface_names earlier) name (iface_names goes.behind) name (length (iface_names earlier)) refl))

-- a list has what stands at a place behind what is in front of it
module _ {X : Type 0} where
  record StandsAt (xs : List X) (i : ℕ) (x : X) (all : List X) : Type 0 where
    pub behind : List X
    pub are : all ≡ take i xs ++ x ∷ behind

  stands_in : (xs : List X) (i : ℕ) (x : X) → slice_get xs i ≡ Some x → StandsAt xs i x xs
  stands_in [] i x there = absurd (none-some x there)
  stands_in (y ∷ ys) zero x there = record { behind = ys; are = ap (λ (z : X). z ∷ ys) (same_Some y x there) }
  stands_in (y ∷ ys) (suc i) x there = let rest = stands_in ys i x there in record { behind = rest.behind; are = ap (λ (zs : List X). y ∷ zs) rest.are }

  stands_among : (xs : List X) (i n : ℕ) (x : X) → slice_get xs i ≡ Some x → i < n → StandsAt xs i x (take n xs)
  stands_among [] i n x there less = absurd (none-some x there)
  stands_among (y ∷ ys) i zero x there less = absurd (omega (arith, less))
  stands_among (y ∷ ys) zero (suc n) x there less = record { behind = take n ys; are = ap (λ (z : X). z ∷ take n ys) (same_Some y x there) }
  stands_among (y ∷ ys) (suc i) (suc n) x there less =
      let rest = stands_among ys i n x there (omega (arith, less)) in
      record { behind = rest.behind; are = ap (λ (zs : List X). y ∷ zs) rest.are }

pub iface_file_or_bad : (text : List ℕ) (ifaces : List Iface) (fault : ConfFault) → IsIfaceFile text ifaces → ¬ IsFirstBadIfaceLine text fault
iface_file_or_bad text ifaces fault is bad =
    let at = stands_in (file_lines text) bad.before bad.line bad.there in
    never (take bad.before (file_lines text)) at.behind bad.line bad.earlier ifaces (subst (λ (all : List (List ℕ)). AreInterfaces all ifaces) at.are is) bad.good bad.bad

pub one_bad_iface_line : (text : List ℕ) (fault other : ConfFault) → IsFirstBadIfaceLine text fault → IsFirstBadIfaceLine text other → fault ≡ other
one_bad_iface_line text fault other is there = by (cases_order is.before there.before)
  where
    by : (is.before ≡ there.before) ⊎ ((is.before < there.before) ⊎ (there.before < is.before)) → fault ≡ other
    by (inl same) = is.stands ∙ ap (λ (before : ℕ). record { span = line_start (take before (file_lines text)); fault = BadIfaceFile }) same ∙ sym there.stands
    by (inr (inl less)) =
        let at = stands_among (file_lines text) is.before there.before is.line is.there less in
        absurd (never (take is.before (file_lines text)) at.behind is.line is.earlier there.earlier
        (subst (λ (all : List (List ℕ)). AreInterfaces all there.earlier) at.are there.good) is.good is.bad)
    by (inr (inr more)) =
        let at = stands_among (file_lines text) there.before is.before there.line there.there more in
        absurd (never (take there.before (file_lines text)) at.behind there.line there.earlier is.earlier
        (subst (λ (all : List (List ℕ)). AreInterfaces all is.earlier) at.are is.good) there.good there.bad)
