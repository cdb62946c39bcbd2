-- What one token more says of all that is read.
use Rattle.std.proofs.Common.{◌≡◌, ℕ, Bool, List, refl, sym, ap, subst, ◌∙◌}
use Rattle.std.specs.Prelude.{Option, Result, Ok, Err}
use Rattle.js_grammar.specs.declared.token.Token.{Token}
use Rattle.js_lexer.specs.declared.token.Goal.{Goal}
use Rattle.js_lexer.specs.Tokens.{IsNext, IsNone}
use Rattle.js_step_operands.specs.Answers.{Gives}
use Rattle.js_step_operands.specs.declared.stop.Stop.{Stop}
use Rattle.js_step_operands.specs.declared.stop.Stop.TheVariants as stop
use Rattle.js_reading.specs.declared.mode.Parser.{Parser}
use Rattle.js_parser.specs.Tokens.{IsToken, goal_of}
use Rattle.js_parser.specs.Outcomes.{Outcome, IsOutcome, outcome_none, outcome_over, outcome_refused, outcome_more, is_wide, refusal_of, unless_refused, judged, taken_by, taken, over}
use Rattle.js_parser.specs.Finding.{IsFound, IsTaken, IsOver}
use Rattle.js_parser.specs.Answers.{Answers, Reads, LeadsOn}
use Rattle.js_parser.specs.declared.refusal.ScriptRefusal.{ScriptRefusal}
use Rattle.js_parser.specs.declared.refusal.ScriptRefusal.TheVariants as refusal

-- ---- one token

answers_itself : (r : Result Parser ScriptRefusal) → Answers r r
answers_itself (Ok q) = refl
answers_itself (Err refusal.NoMemory) = tt
answers_itself (Err r) = refl

pub judged_answers : (wide : Bool) (at : ℕ) (stepped : Result Parser Stop) (read : Option Parser) → Gives (λ x. x) stepped read → Answers (judged wide at stepped) (taken_by wide at read)
judged_answers wide at (Ok q) read e = subst (λ (o : Option Parser). Answers (unless_refused (refusal_of wide at q) q) (taken_by wide at o)) (sym e) (answers_itself (unless_refused (refusal_of wide at q) q))
judged_answers wide at (Err stop.Syntax) read e = subst (λ (o : Option Parser). Answers {X = Parser} (Err (refusal.Syntax at)) (taken_by wide at o)) (sym e) refl
judged_answers wide at (Err stop.NoMemory) read e = tt

-- ---- the tokens from a place on

token_at : (text : List ℕ) (at : ℕ) (p : Parser) (goal : Goal) (token : Token) (wide : Bool) (end bytes : ℕ) → goal ≡ goal_of p.mode → (h : IsTaken text at goal token wide end bytes) → IsToken text at (goal_of p.mode) h.t token
token_at text at p goal token wide end bytes e h = subst (λ (x : Goal). IsToken text at x h.t token) e h.token_is

taken_at : (text : List ℕ) (at : ℕ) (p : Parser) (goal : Goal) (token : Token) (wide : Bool) (end bytes : ℕ) (h : IsTaken text at goal token wide end bytes) → taken (is_wide h.t.kind) p token ≡ taken wide p token
taken_at text at p goal token wide end bytes h = ap (λ (w : Bool). taken w p token) (sym h.wide_is)

pub leads_on : (text : List ℕ) (at : ℕ) (p q : Parser) (goal : Goal) (token : Token) (wide : Bool) (end bytes : ℕ) → goal ≡ goal_of p.mode → IsTaken text at goal token wide end bytes → taken wide p token ≡ Ok q → LeadsOn text at p (record { parser = q; end = end; bytes = bytes })
leads_on text at p q goal token wide end bytes e h k =
    record {
      further = h.further;
      within = h.within;
      bytes_are = h.bytes_are;
      onward = λ result i.
          outcome_more at p q h.t token result (token_at text at p goal token wide end bytes e h) (taken_at text at p goal token wide end bytes h ∙ k) (subst (λ (n : ℕ). IsOutcome text n q result) h.end_is i);
    }

refused : (text : List ℕ) (at : ℕ) (p : Parser) (goal : Goal) (token : Token) (wide : Bool) (end bytes : ℕ) (r : ScriptRefusal) → goal ≡ goal_of p.mode → IsTaken text at goal token wide end bytes → taken wide p token ≡ Err r → IsOutcome text at p (Err r)
refused text at p goal token wide end bytes r e h k = outcome_refused at p h.t token r (token_at text at p goal token wide end bytes e h) (taken_at text at p goal token wide end bytes h ∙ k)

pub refused_here : (text : List ℕ) (at : ℕ) (p : Parser) (goal : Goal) (token : Token) (wide : Bool) (end bytes : ℕ) (r : ScriptRefusal) → goal ≡ goal_of p.mode → IsTaken text at goal token wide end bytes → Answers (Err r) (taken wide p token) → Reads text at p (Err r)
refused_here text at p goal token wide end bytes refusal.NoMemory e h k = tt
refused_here text at p goal token wide end bytes r e h k = refused text at p goal token wide end bytes r e h k

over_is : (text : List ℕ) (at : ℕ) (p : Parser) (goal : Goal) (place : ℕ) → goal ≡ goal_of p.mode → IsOver text at goal place → IsOutcome text at p (over p place)
over_is text at p goal place e h =
    subst (λ (n : ℕ). IsOutcome text at p (over p n)) (sym h.place_is) (outcome_over at p h.t (subst (λ (x : Goal). IsNext text at x h.t) e h.next) h.finish)

pub over_here : (text : List ℕ) (at : ℕ) (p : Parser) (goal : Goal) (place : ℕ) (result : Outcome) → goal ≡ goal_of p.mode → IsOver text at goal place → Answers result (over p place) → Reads text at p result
over_here text at p goal place (Ok body) e h k = subst (λ (r : Outcome). IsOutcome text at p r) k (over_is text at p goal place e h)
over_here text at p goal place (Err refusal.NoMemory) e h k = tt
over_here text at p goal place (Err r) e h k = subst (λ (x : Outcome). IsOutcome text at p x) k (over_is text at p goal place e h)

pub nothing_here : (text : List ℕ) (at : ℕ) (p : Parser) (goal : Goal) (r : ScriptRefusal) → goal ≡ goal_of p.mode → IsFound text at goal (Err r) → Reads text at p (Err r)
nothing_here text at p goal (refusal.Syntax place) e h =
    subst (λ (n : ℕ). IsOutcome text at p (Err (refusal.Syntax n))) (sym h.place_is) (outcome_none at p h.r (subst (λ (x : Goal). IsNone text at x h.r) e h.none))
nothing_here text at p goal refusal.NoMemory e h = tt
nothing_here text at p goal r e h = absurd h

-- what is read further on is read from here on
pub reads_on : (text : List ℕ) (at from : ℕ) (p q : Parser) (result : Outcome) → ((r : Outcome) → IsOutcome text at p r → IsOutcome text from q r) → Reads text at p result → Reads text from q result
reads_on text at from p q (Ok body) f h = f (Ok body) h
reads_on text at from p q (Err refusal.NoMemory) f h = tt
reads_on text at from p q (Err r) f h = f (Err r) h
