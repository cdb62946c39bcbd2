use Rattle.js_lexer.proofs.Longest.{numeral_same}
use Rattle.js_lexer.proofs.TokenValues.{text_same}
use Rattle.js_lexer.proofs.laws.one_value.Goals as goal

pub returns : goal.returns
returns c = record {
  number = λ units rest behind a b h f low. numeral_same units rest behind a b h f low;
  text = λ units rest behind a b h f. text_same units a b rest behind h f;
}
