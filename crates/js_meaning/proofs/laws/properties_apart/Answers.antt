use Rattle.js_meaning.proofs.RowsApart.{get_apart, property_apart, bracket_apart, get_fits, property_fits, bracket_fits}
use Rattle.js_meaning.proofs.laws.properties_apart.Goals as goal

pub returns : goal.returns
returns c = record { get = λ site x key objects. get_apart site x key objects; property = λ site r key objects. property_apart site r key objects; bracket = λ site is_literal r key objects. bracket_apart site is_literal r key objects; get_fits = λ site x key objects. get_fits site x key objects; property_fits = λ site r key objects. property_fits site r key objects; bracket_fits = λ site is_literal r key objects. bracket_fits site is_literal r key objects }
