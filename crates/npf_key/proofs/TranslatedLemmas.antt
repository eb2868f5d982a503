-- A translated packet is of its family still.
use Rattle.std.proofs.Common.{◌≡◌, Bool, true, false, Option, Some, None, cond, refl}
use Rattle.npf_types.specs.declared.{address.Addr.{Addr, TheVariants.{V4, V6}}, change.{Change.Change, End.End}, facts.Facts.Facts}
use Rattle.npf_key.specs.{Translated.{shares_family, fitting, address_there, facts_there, about}, Laws.IsOneFamily}

shares-self : (a : Addr) → shares_family a a ≡ true
shares-self (V4 _) = refl
shares-self (V6 _) = refl

shares-sym : (a b : Addr) → shares_family a b ≡ true → shares_family b a ≡ true
shares-sym (V4 _) (V4 _) h = refl
shares-sym (V6 _) (V6 _) h = refl
shares-sym (V4 _) (V6 _) h = absurd cc
shares-sym (V6 _) (V4 _) h = absurd cc

pub shares-other : (a b c : Addr) → shares_family a b ≡ true → shares_family a c ≡ true → shares_family b c ≡ true
shares-other (V4 _) (V4 _) (V4 _) h k = refl
shares-other (V6 _) (V6 _) (V6 _) h k = refl
shares-other (V4 _) (V4 _) (V6 _) h k = absurd cc
shares-other (V4 _) (V6 _) _ h k = absurd cc
shares-other (V6 _) (V6 _) (V4 _) h k = absurd cc
shares-other (V6 _) (V4 _) _ h k = absurd cc

-- an address that is written is of the packet's family
pub written : (a other : Addr) (named : Option End) → shares_family a other ≡ true → shares_family a (address_there (fitting a named) other) ≡ true
written a other None h = h
written a other (Some named) h = by (shares_family named.addr a) refl
  where
    by : (b : Bool) → shares_family named.addr a ≡ b → shares_family a (address_there (cond b (Some named) None) other) ≡ true
    by true e = shares-sym named.addr a e
    by false e = h

pub keeps_family : (facts : Facts) (there : Change) → IsOneFamily facts → IsOneFamily (facts_there there facts)
keeps_family facts there h =
    shares-other facts.src (address_there (fitting facts.src there.src) facts.src) (address_there (fitting facts.src there.dst) facts.dst)
    (written facts.src facts.src there.src (shares-self facts.src)) (written facts.src facts.dst there.dst h)

pub about_family : (facts : Facts) → IsOneFamily facts → IsOneFamily (about facts)
about_family facts h = shares-sym facts.src facts.dst h
