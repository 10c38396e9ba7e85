-- The table of what each kind asks for, as the definitions say it. No caller needs this.
-- This project's own.
use Rattle.js_syntax.specs.declared.shape.Naming.{Naming}
use Rattle.js_syntax.specs.declared.shape.Naming.TheVariants as namings
use Rattle.js_syntax.specs.declared.shape.Amount.{Amount}
use Rattle.js_syntax.specs.declared.shape.Amount.TheVariants as amounts
use Rattle.js_syntax.specs.declared.shape.Form.{Form}
use Rattle.js_syntax.specs.Shape.{Count, exactly, at_least, one_a_name, Named, never, maybe, always, Shape, shape}

abbrev pub named_of : Naming → Named
named_of namings.Never = never
named_of namings.Maybe = maybe
named_of namings.Always = always

abbrev pub count_of : Amount → Count
count_of (amounts.Exactly k) = exactly k
count_of (amounts.AtLeast k) = at_least k
count_of amounts.OneAName = one_a_name

abbrev pub read_shape : Form → Shape
read_shape form = shape (named_of (form.name)) (count_of (form.names)) (count_of (form.kids))
