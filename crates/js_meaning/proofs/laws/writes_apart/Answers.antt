use Rattle.js_meaning.proofs.RowsApart.{set_apart, property_in, item_in, set_keeps, property_keeps, item_keeps}
use Rattle.js_meaning.proofs.laws.writes_apart.Goals as goal

pub returns : goal.returns
returns c = record { set = λ site base key x objects. set_apart site base key x objects; property = λ site objects o key x. property_in site objects o key x; item = λ site objects o x. item_in site objects o x; set_keeps = λ site base key x objects. set_keeps site base key x objects; property_keeps = λ site objects o key x. property_keeps site objects o key x; item_keeps = λ site objects o x. item_keeps site objects o x }
