-- Nothing that may be empty is repeated in values and protocols, and in what the loops over their lists read.
use Rattle.std.proofs.Common.{◌≡◌, true, Some, refl}
use Rattle.npf_lexer.specs.declared.token.Sign.TheVariants.{Comma}
use Rattle.npf_phrase.{specs.Grammar.{making, preceded}, proofs.TestLemmas.advances}
use Rattle.npf_parser_values.specs.{declared.role.ValueRole.ValueRole, Token.{sign, spaced}}
use Rattle.npf_parser_values.specs.Value.{iface, one, number_value, address_value, table_value, function, function_value, written, value}

pub value_advances : (role : ValueRole) → advances (value role true) ≡ true
unfolding value written number_value address_value table_value function function_value iface
value_advances role = refl

pub next_value_advances : (role : ValueRole) → advances (preceded (spaced true (sign Comma)) (making (λ _ a. Some a) (value role true))) ≡ true
unfolding value written number_value address_value table_value function function_value iface
next_value_advances role = refl

pub one_advances : advances one ≡ true
unfolding one
one_advances = refl

pub next_one_advances : advances (preceded (sign Comma) (making (λ _ a. Some a) one)) ≡ true
unfolding one
next_one_advances = refl
