use Rattle.re_parser.proofs.Wholes.{answer_found, answer_only, answer_refused, answer_flags, answer_bad, answer_kinds}
use Rattle.std.proofs.Common.{ℕ}
use Rattle.re_ast.specs.declared.patterns.Node.{Node}
use Rattle.re_ast.specs.declared.patterns.Pattern.{Pattern}
use Rattle.re_parser.proofs.Lifts.{refused_again}
use Rattle.re_parser.proofs.parser.parse_pattern.Goals as goal

pub returns-in-Err-clause-only : goal.returns-in-Err-clause-only
returns-in-Err-clause-only c = answer_bad c.args.body.now c.args.flags.now c.as_slice.result.now c.in-Err.at c.as_slice.ensures c.in-Err.ensures

pub returns-in-Ok-body_of-clause-found : goal.returns-in-Ok-body_of-clause-found
returns-in-Ok-body_of-clause-found c = answer_found c.args.body.now c.args.flags.now c.as_slice-2.result.now c.as_slice.result.now (c.in-Ok-body_of.node, c.in-Ok-body_of.groups) c.in-Ok.flags c.as_slice-2.ensures c.as_slice.ensures c.in-Ok.ensures c.in-Ok-body_of.ensures.leads

pub returns-in-Ok-body_of-clause-only : goal.returns-in-Ok-body_of-clause-only
returns-in-Ok-body_of-clause-only c = answer_only c.args.body.now c.args.flags.now c.as_slice-2.result.now c.as_slice.result.now (c.in-Ok-body_of.node, c.in-Ok-body_of.groups) c.in-Ok.flags c.as_slice-2.ensures c.as_slice.ensures c.in-Ok.ensures c.in-Ok-body_of.ensures.leads

pub returns-in-Err-body_of-clause-only : goal.returns-in-Err-body_of-clause-only
returns-in-Err-body_of-clause-only c = answer_refused c.args.body.now c.args.flags.now c.as_slice-2.result.now c.in-Err-body_of.refusal c.as_slice-2.ensures c.in-Err-body_of.ensures.leads

pub returns-in-Err-body_of-clause-flags : goal.returns-in-Err-body_of-clause-flags
returns-in-Err-body_of-clause-flags c = answer_flags c.args.flags.now c.as_slice-2.result.now c.as_slice.result.now c.in-Err-body_of.refusal c.in-Ok.flags c.as_slice.ensures c.in-Ok.ensures c.in-Err-body_of.ensures.leads

pub returns-in-Err-body_of-clause-kinds : goal.returns-in-Err-body_of-clause-kinds
returns-in-Err-body_of-clause-kinds c = answer_kinds c.args.body.now c.as_slice-2.result.now c.in-Err-body_of.refusal c.as_slice-2.ensures c.in-Err-body_of.ensures.leads

pub returns-in-Err-body_of-clause-place : goal.returns-in-Err-body_of-clause-place
returns-in-Err-body_of-clause-place c = refused_again (Node × ℕ) Pattern c.as_slice-2.result.now c.args.body.now c.in-Err-body_of.refusal c.as_slice-2.ensures c.in-Err-body_of.ensures.place
