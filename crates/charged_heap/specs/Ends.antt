-- What a call over a heap gives, or why it gives nothing, with the store after it; and how one goes on after another.
-- This project's own; docs/PRICES.md, "When the heap is full". No statement about ECMA-262.
use Rattle.std.specs.Prelude.{◌≡◌, ◌≢◌, ℕ, ◌+◌, length, Result, Ok, Err, nat_le, if◌then◌else◌}
use Rattle.charged_heap.specs.Price.{charge_of, price_of}
use Rattle.charged_heap.specs.Closed.{IsSoundValue}
use Rattle.charged_heap.specs.Room.{overrun_of}
use Rattle.charged_heap.specs.Store.{Store, with_more}
use Rattle.charged_heap.specs.declared.fault.Fail.{Fail}
use Rattle.charged_heap.specs.declared.fault.Fail.TheVariants.{Throw, Over, NoMemory}
use Rattle.charged_heap.specs.declared.item.Item.{Item}
use Rattle.charged_heap.specs.declared.values.Value.{Value}

-- what is given, what is thrown or a refusal, and the store after it
abbrev pub Ends : Type 0 → Type 0
Ends A = Result A Fail × Store

-- the result and the store are those of the meaning, unless no memory was found
abbrev pub Meets : {A : Type 0} → Result A Fail → Store → Ends A → Type 0
Meets result new meaning = result ≢ Err NoMemory → meaning ≡ (result, new)

-- goes on with what was given; what is thrown or refused stays
abbrev pub and_then : {A B : Type 0} → Ends A → (A → Store → Ends B) → Ends B
and_then (Ok a, s) next = next a s
and_then (Err fail, s) next = (Err fail, s)

-- one more item, which gets its number; where it doesn't fit, the refusal alone
abbrev pub item_made : Item → Store → Ends ℕ
item_made one s =
    if nat_le (charge_of s.items + price_of one) s.limit then (Ok (length s.items), with_more s one)
    else (Err (Over (overrun_of s (price_of one))), s)

-- ---- what holds of each end

-- what is thrown, if anything, is a value that the store has
abbrev pub IsSoundFail : Store → Fail → Type 0
IsSoundFail s (Throw v) = IsSoundValue s v
IsSoundFail s _ = Unit {0}

-- so is a value that is given
abbrev pub IsSoundResult : Store → Result Value Fail → Type 0
IsSoundResult s (Ok v) = IsSoundValue s v
IsSoundResult s (Err fail) = IsSoundFail s fail
