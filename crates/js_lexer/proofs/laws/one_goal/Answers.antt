use Rattle.js_lexer.proofs.Onlys.{gap_same}
use Rattle.js_lexer.proofs.OtherGoals.{next_other, next_slash, none_other, none_place, next_place}
use Rattle.js_lexer.proofs.laws.one_goal.Goals as goal

pub returns : goal.returns
returns c = record {
  other = λ text at g o t h e. next_other text at g o t h e;
  slash = λ text at g t h e. next_slash text at g t h e;
  none = λ text at g o r h e. none_other text at g o r h e;
  place = λ text at g o t r h n. none_place text at g o t r h n;
  gap = λ text at g o a b h f. next_place text at g o a b h f;
  nothing = λ text at g o r s h n. (gap_same text at s.at r.at n.line_end h.line_end n.gap h.gap).0;
}
