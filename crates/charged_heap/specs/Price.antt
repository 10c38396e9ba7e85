-- What items cost, in cells.
-- This project's own; docs/PRICES.md, "Cells". No statement about ECMA-262.
use Rattle.std.specs.Prelude.{ℕ, ◌+◌, ◌-◌, ◌*◌, ◌/◌, List, length, sum_by}
use Rattle.std.specs.Map.{keys_of}
use Rattle.charged_heap.specs.declared.price.TheConstants.{ITEM_CELLS, PROPERTY_CELLS, ELEMENT_CELLS, TEXT_CELLS, SCOPE_CELLS, BINDING_CELLS, REACTION_CELLS, ROW_CELLS, UNITS_PER_CELL}
use Rattle.charged_heap.specs.declared.values.Value.{Value}
use Rattle.charged_heap.specs.declared.item.Item.{Item}
use Rattle.charged_heap.specs.declared.item.Item.TheVariants.{Text, Plain, Array, Error, Scope, Closure, Promise, Settler, Reference, Deref, External, Into, Callback, Row, Script}

-- one cell for each four units begun
abbrev pub units_price : List ℕ → ℕ
units_price units = (length units + UNITS_PER_CELL - 1) / UNITS_PER_CELL

-- a string of these units
abbrev pub text_price : List ℕ → ℕ
text_price units = TEXT_CELLS + units_price units

-- a property with this key
abbrev pub property_price : List ℕ → ℕ
property_price key = PROPERTY_CELLS + units_price key

-- all of these properties
abbrev pub properties_price : List (List ℕ × Value) → ℕ
properties_price props = sum_by property_price (keys_of props)

-- an item with all its parts; the names that a scope notes as functions are free
abbrev pub price_of : Item → ℕ
price_of (Text units) = text_price units
price_of (Plain props) = ITEM_CELLS + properties_price props
price_of (Array values) = ITEM_CELLS + ELEMENT_CELLS * length values
price_of (Error kind message) = ITEM_CELLS
price_of (Scope parent bindings functions) = SCOPE_CELLS + BINDING_CELLS * length bindings
price_of (Closure script node scope global receiver) = ITEM_CELLS
price_of (Promise state reactions) = ITEM_CELLS + REACTION_CELLS * length reactions
price_of (Settler promise good) = ITEM_CELLS
price_of (Reference to released) = ITEM_CELLS
price_of (Deref handle) = ITEM_CELLS
price_of (External copy) = ITEM_CELLS
price_of (Into copy) = ITEM_CELLS
price_of (Callback callback) = ITEM_CELLS
price_of (Row value) = ROW_CELLS
price_of (Script script) = ITEM_CELLS

-- the cells of all items together
abbrev pub charge_of : List Item → ℕ
charge_of items = sum_by price_of items
