-- What a line says, with the lines that belong to it, is whole lines.
use Rattle.std.proofs.Common.{ℕ, true, false, List, ◌++◌, length, Some, None, sym, subst, append_assoc}
use Rattle.std.specs.Prelude.{ℤ, codes, decimal}
use Rattle.std.specs.List.{flat_map}
use Rattle.path_core.specs.declared.query.Query.{Query}
use Rattle.cnf_core.specs.declared.clauses.Cnf.{Cnf}
use Rattle.cnf_core.specs.declared.clauses.ProofStep.{ProofStep}
use Rattle.cnf_core.specs.declared.clauses.Derivation.{Derivation}
use Rattle.proof_text.specs.Blocks.{literal_text, hint_text, clause_text, step_text, sizes_text, sizes_of, block_text}
use Rattle.report_text.specs.Lines.{event_text, end_text, query_text, tried_text, term_text, input_text, candidates_text, costs_text, beyond_text, head_text, line_text}
use Rattle.report_text.specs.Heads.{asked_text, line_of_head}
use Rattle.report_text.specs.declared.heads.Asked.{Asked}
use Rattle.report_text.specs.declared.heads.Asked.TheVariants as asked
use Rattle.report_text.specs.declared.heads.Head.{Head}
use Rattle.report_text.specs.declared.heads.Head.TheVariants as heads
use Rattle.report_text.specs.declared.report.Line.{Line}
use Rattle.report_text.specs.declared.report.Line.TheVariants as lines
use Rattle.report_text.proofs.ReadBodies.{Body, body_text, line_of, line_parts}
use Rattle.report_text.proofs.Chains.{IsWhole, whole_none, whole_both, whole_all, whole_lf}

zero_ends : (a : List ℕ) → IsWhole (a ++ codes " 0\n")
zero_ends a = subst IsWhole (append_assoc a (codes " 0") (codes "\n")) (whole_lf (a ++ codes " 0"))

clause_whole : (c : List ℤ) → IsWhole (clause_text c)
unfolding clause_text
clause_whole c = zero_ends (codes "c" ++ flat_map literal_text c)

step_whole : (s : ProofStep) → IsWhole (step_text s)
unfolding step_text
step_whole s = zero_ends (codes "s" ++ flat_map literal_text s.clause ++ codes " 0" ++ flat_map hint_text s.hints)

sizes_whole : (cnf : Cnf) (derivation : Derivation) → IsWhole (sizes_text (sizes_of cnf derivation))
unfolding sizes_text
sizes_whole cnf derivation = whole_lf (codes "block " ++ decimal cnf.variables ++ codes " " ++ decimal (length cnf.clauses) ++ codes " " ++ decimal (length derivation.steps))

block_whole : (cnf : Cnf) (derivation : Derivation) → IsWhole (block_text cnf derivation)
unfolding block_text
block_whole cnf derivation =
    let sizes = sizes_of cnf derivation in
    whole_both (sizes_text sizes ++ flat_map clause_text cnf.clauses) (flat_map step_text derivation.steps)
    (whole_both (sizes_text sizes) (flat_map clause_text cnf.clauses) (sizes_whole cnf derivation) (whole_all clause_text clause_whole cnf.clauses))
    (whole_all step_text step_whole derivation.steps)

body_whole : (a : Asked) (x : Body a) → IsWhole (body_text a x)
unfolding candidates_text costs_text beyond_text
body_whole asked.Shut None = whole_none
body_whole asked.Shut (Some b) = block_whole b.0 b.1
body_whole asked.Tried x = whole_lf (flat_map tried_text x.0 ++ codes "untried" ++ input_text x.1)
body_whole asked.Stepped x = block_whole x.0 x.1
body_whole asked.Wide x =
    let front = codes "cost " ++ decimal x.0 ++ codes "\nterms " ++ decimal (length x.1) in
    whole_both (front ++ codes "\n") (flat_map term_text x.1) (whole_lf front) (whole_all term_text (λ t. whole_lf t) x.1)
body_whole asked.Unvisited x = whole_lf (codes "beyond" ++ input_text x)

pub head_whole : (h : Head) → IsWhole (line_of_head h)
unfolding head_text
head_whole (heads.Path input path) = whole_lf (codes "path" ++ input_text input ++ codes " |" ++ flat_map event_text path.events ++ codes " | " ++ end_text path.end)
head_whole (heads.Asked a query) = whole_lf (asked_text a ++ query_text query)
head_whole (heads.Last true) = whole_lf (codes "complete")
head_whole (heads.Last false) = whole_lf (codes "incomplete")

asked_whole : (a : Asked) (query : Query) (x : Body a) → IsWhole (line_text (line_of a query x))
asked_whole a query x = subst IsWhole (sym (line_parts a query x)) (whole_both (line_of_head (heads.Asked a query)) (body_text a x) (head_whole (heads.Asked a query)) (body_whole a x))

pub line_whole : (l : Line) → IsWhole (line_text l)
unfolding line_text
line_whole (lines.Path input path) = head_whole (heads.Path input path)
line_whole (lines.Shut query block) = asked_whole asked.Shut query block
line_whole (lines.Tried query tried untried) = asked_whole asked.Tried query (tried, untried)
line_whole (lines.Stepped query cnf derivation) = asked_whole asked.Stepped query (cnf, derivation)
line_whole (lines.Wide query cost terms) = asked_whole asked.Wide query (cost, terms)
line_whole (lines.Unvisited query input) = asked_whole asked.Unvisited query input
