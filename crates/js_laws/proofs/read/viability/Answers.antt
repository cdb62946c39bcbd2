use Rattle.js_laws.proofs.Places.{reached_viable, viable_spelt, refused_viable, refused_place}
use Rattle.js_laws.proofs.read.viability.Goals as goal

pub returns : goal.returns
returns c = record { reached = λ ts p h. reached_viable ts p h; spelt = λ ts v. viable_spelt ts v; refused = λ ts rest h. refused_viable ts rest h; place = λ complete ts rest h. refused_place complete ts rest h }
