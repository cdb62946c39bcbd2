-- Kinds of what stands before a property.
use Rattle.std.specs.Prelude.{◌≡◌}
use Rattle.term_table.specs.declared.shadow.Plain.{Plain}
use Rattle.term_table.specs.declared.shadow.Plain.TheVariants as plain
use Rattle.js_state.specs.declared.shadows.Base.{Base}
use Rattle.js_state.specs.declared.shadows.Base.TheVariants as base

abbrev pub IsBase : Plain → Base → Type 0
IsBase plain.Undefined base.Nothing = Unit {0}
IsBase plain.Null base.Nothing = Unit {0}
IsBase (plain.Bool b) base.Primitive = Unit {0}
IsBase (plain.Int n) base.Primitive = Unit {0}
IsBase plain.NotNumber base.Primitive = Unit {0}
IsBase (plain.Text t) (base.Text s) = s.now ≡ t
IsBase (plain.Object o) (base.Object p) = p ≡ o
IsBase _ _ = ⊥
