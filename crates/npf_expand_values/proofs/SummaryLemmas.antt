-- What becomes of values, one behind the other, is what becomes of each, joined.
use Rattle.std.{proofs.{Common.{◌≡◌, ℕ, ◌+◌, Bool, Option, List, ◌++◌, ap, ◌∙◌, arith}, lemmas.Grind.flat_map-append}, specs.List.flat_map}
use Rattle.std.proofs.lemmas.List.{Folds.{list_all-append, list_any-append}, Sums.sum_by-append}
use Rattle.npf_faults.{specs.{declared.fault.ConfFault.ConfFault, First.first_fault}, proofs.FirstLemmas.first_fault-append}
use Rattle.npf_expand_values.specs.declared.{role.Role.{Role, TheVariants.{AsPort, AsAddress, AsProtocol, AsInterface}}, summary.{Fate.Fate, Summary.Summary}}
use Rattle.npf_expand_values.specs.{Atom.Atom, Summary.{counted, fate_of, joined_summary, joined_fate, summary_of}}
use Rattle.npf_model.specs.declared.iface.Iface.{Iface}
use Rattle.npf_expand_values.specs.{Host.{host_count, host_count_of, is_missing}, Protocol.is_protocol}
use Rattle.npf_expand_values.specs.Use.{count_of, element_count, is_unfit, word_faults}

abbrev fate : Bool → Option ConfFault → Fate
fate unfit word = record { unfit = unfit; word = word }

same_fate : (a b : Bool) (v w : Option ConfFault) → a ≡ b → v ≡ w → fate a v ≡ fate b w
same_fate a b v w same_unfit same_word = cc

fate_of-append : (role : Role) (xs ys : List Atom) → fate_of role (xs ++ ys) ≡ joined_fate (fate_of role xs) (fate_of role ys)
fate_of-append role xs ys = same_fate _ _ _ _ (list_any-append (is_unfit role) xs ys)
    (ap first_fault (flat_map-append (word_faults role) xs ys) ∙ first_fault-append (flat_map (word_faults role) xs) (flat_map (word_faults role) ys))

pub counted_of_both : (a b : ℕ) → counted (a + b) ≡ counted (counted a + counted b)
counted_of_both a b = omega arith

abbrev summary : ℕ → ℕ → Bool → Fate → Fate → Fate → Fate → Bool → Bool → Summary
summary count hosts missing port address protocol interface icmp icmp6 =
    record { count = count; hosts = hosts; missing = missing; port = port; address = address; protocol = protocol; interface = interface; icmp = icmp; icmp6 = icmp6 }

same_summary : (n m h k : ℕ) (t u : Bool) (p q a b r s i j : Fate) (v w x y : Bool) → n ≡ m → h ≡ k → t ≡ u → p ≡ q → a ≡ b → r ≡ s → i ≡ j → v ≡ w → x ≡ y
    → summary n h t p a r i v x ≡ summary m k u q b s j w y
same_summary n m h k t u p q a b r s i j v w x y same_count same_hosts same_missing same_port same_address same_protocol same_interface same_icmp same_icmp6 = cc

pub summary_of-append : (ifaces : List Iface) (xs ys : List Atom) → summary_of ifaces (xs ++ ys) ≡ joined_summary (summary_of ifaces xs) (summary_of ifaces ys)
summary_of-append ifaces xs ys = same_summary _ _ _ _ _ _ _ _ _ _ _ _ _ _ _ _ _ _
    (ap counted (sum_by-append count_of xs ys) ∙ counted_of_both (element_count xs) (element_count ys))
    (ap counted (sum_by-append (host_count_of ifaces) xs ys) ∙ counted_of_both (host_count ifaces xs) (host_count ifaces ys))
    (list_any-append (is_missing ifaces) xs ys)
    (fate_of-append AsPort xs ys) (fate_of-append AsAddress xs ys) (fate_of-append AsProtocol xs ys) (fate_of-append AsInterface xs ys)
    (list_all-append (is_protocol 1) xs ys) (list_all-append (is_protocol 58) xs ys)
