-- Values of the definitions, worked out by hand. No caller needs this.
use Rattle.std.proofs.Common.{◌≡◌, List, [], ◌∷◌, Ok, Err, true, false, refl}
use Rattle.std.specs.Prelude.{pos, negsuc, codes}
use Rattle.ivm_text.specs.declared.copies.ErrorKind.TheVariants.{TypeError}
use Rattle.charged_heap.specs.Store.{Store}
use Rattle.charged_heap.specs.declared.builtin.Builtin.TheVariants as builtin
use Rattle.charged_heap.specs.declared.fault.Fail.TheVariants.{Throw, Over}
use Rattle.charged_heap.specs.declared.item.Item.{Item}
use Rattle.charged_heap.specs.declared.item.Item.TheVariants.{Text, Error, Array}
use Rattle.charged_heap.specs.declared.values.Value.TheVariants as value
use Rattle.js_ops.specs.Numbers.{calculated}
use Rattle.js_ops.specs.Values.{same, truthy}
use Rattle.js_ops.specs.Outcome.{binary_outcome, thrown}
use Rattle.js_ops.specs.declared.error.ScriptError.TheVariants.{OutOfRange, NotWhole, DivisionByZero}
use Rattle.js_ops.specs.declared.operators.Arithmetic.TheVariants.{Add, Sub, Div, Rem}
use Rattle.js_ops.specs.declared.operators.BinaryOperator.TheVariants.{Calculate}

-- ---- numbers: 9007199254740991 is 2^53 - 1

sum_at_the_end : calculated Add (pos 9007199254740990) (pos 1) ≡ Ok (pos 9007199254740991)
sum_at_the_end = refl

sum_past_the_end : calculated Add (pos 9007199254740991) (pos 1) ≡ Err OutOfRange
sum_past_the_end = refl

-- negsuc n is -(n + 1)
difference_at_the_end : calculated Sub (negsuc 9007199254740989) (pos 1) ≡ Ok (negsuc 9007199254740990)
difference_at_the_end = refl

difference_past_the_end : calculated Sub (negsuc 9007199254740990) (pos 1) ≡ Err OutOfRange
difference_past_the_end = refl

whole_quotient : calculated Div (negsuc 5) (pos 3) ≡ Ok (negsuc 1)
whole_quotient = refl

broken_quotient : calculated Div (negsuc 6) (pos 3) ≡ Err NotWhole
broken_quotient = refl

no_quotient : calculated Div (pos 0) (pos 0) ≡ Err DivisionByZero
no_quotient = refl

negative_remainder : calculated Rem (negsuc 6) (negsuc 2) ≡ Ok (negsuc 0)
negative_remainder = refl

zero_remainder : calculated Rem (negsuc 5) (pos 3) ≡ Ok (pos 0)
zero_remainder = refl

-- ---- a store with the strings "ab", "ab" and "", and an array

abbrev items : List Item
items = Text (97 ∷ 98 ∷ []) ∷ Text (97 ∷ 98 ∷ []) ∷ Text [] ∷ Array [] ∷ []

abbrev store : Store
store = record { items = items; limit = 100 }

two_strings_are_the_same : same store (value.Item 0) (value.Item 1) ≡ true
two_strings_are_the_same = refl

two_functions_are_not : same store (value.Builtin builtin.ArraySlice) (value.Builtin builtin.StringSlice) ≡ false
two_functions_are_not = refl

an_array_is_itself : same store (value.Item 3) (value.Item 3) ≡ true
an_array_is_itself = refl

the_empty_string_is_false : truthy store (value.Item 2) ≡ false
the_empty_string_is_false = refl

-- ---- an error costs 4 beside its message, here of 2 cells

error_that_fits : thrown TypeError (codes "ab") (record { items = []; limit = 6 })
    ≡ (Err (Throw (value.Item 1)), record { items = Text (codes "ab") ∷ Error TypeError 0 ∷ []; limit = 6 })
error_that_fits = refl

error_that_does_not : thrown TypeError (codes "ab") (record { items = []; limit = 5 })
    ≡ (Err (Over (record { charged = 2; asked = 4; limit = 5 })), record { items = Text (codes "ab") ∷ []; limit = 5 })
error_that_does_not = refl

message_that_does_not : thrown TypeError (codes "ab") (record { items = []; limit = 1 })
    ≡ (Err (Over (record { charged = 0; asked = 2; limit = 1 })), record { items = []; limit = 1 })
message_that_does_not = refl

-- the two strings joined: 2 cells, behind the one item of 2 cells that is there
join_of_strings : binary_outcome (Calculate Add) (value.Item 0) (value.Item 0) (record { items = Text (97 ∷ 98 ∷ []) ∷ []; limit = 4 })
    ≡ (Ok (value.Item 1), record { items = Text (97 ∷ 98 ∷ []) ∷ Text (97 ∷ 98 ∷ 97 ∷ 98 ∷ []) ∷ []; limit = 4 })
unfolding binary_outcome
join_of_strings = refl
