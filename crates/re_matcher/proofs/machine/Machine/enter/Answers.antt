use Rattle.std.proofs.Common.{refl, ap, length, not, Bool, [], if◌then◌else◌, ◌+◌}
use Rattle.re_ast.specs.Tree.{tree_of}
use Rattle.re_ast.specs.Successes.{State, stay, move_to, where_fits, capture, clear}
use Rattle.re_matcher.specs.Runs.{runs, tick, and_then, all_some, looked, repeats}
use Rattle.std.proofs.Common.{Some, ◌∷◌}
use Rattle.re_ast.specs.declared.patterns.Node.{Node}
use Rattle.re_ast.proofs.Trees.{tree_of_empty, tree_of_unit, tree_of_dot, tree_of_class, tree_of_line_start, tree_of_line_end, tree_of_word, tree_of_not_word, tree_of_group, tree_of_back, tree_of_look, tree_of_repeat}
use Rattle.re_matcher.specs.Pending.{state}
use Rattle.re_matcher.proofs.Waiting.{becomes_node, becomes_seen}
use Rattle.re_matcher.proofs.machine.Machine.enter.Goals as goal

pub returns-in_ok-go_on-in-Empty : goal.returns-in_ok-go_on-in-Empty
unfolding runs
returns-in_ok-go_on-in-Empty c =
    becomes_node c.args.flags c.args.text.now _ _ _ _ _ _ _ _ _ (state c.args.spot) c.in_ok-go_on-in-Empty.ensures c.in-Empty.is tree_of_empty
    (refl)

pub returns-in_ok-go_if-in-Unit : goal.returns-in_ok-go_if-in-Unit
unfolding runs
returns-in_ok-go_if-in-Unit c =
    becomes_node c.args.flags c.args.text.now _ _ _ _ _ _ _ _ _ (state c.args.spot) c.in_ok-go_if-in-Unit.ensures c.in-Unit.is (tree_of_unit c.in-Unit.unit)
    (ap (λ (b : Bool). all_some (if b then stay (move_to (state c.args.spot) (c.args.spot.place + 1)) else [])) c.is_unit-fits.ensures.value)

pub returns-in_ok-go_if-in-Dot : goal.returns-in_ok-go_if-in-Dot
unfolding runs
returns-in_ok-go_if-in-Dot c =
    becomes_node c.args.flags c.args.text.now _ _ _ _ _ _ _ _ _ (state c.args.spot) c.in_ok-go_if-in-Dot.ensures c.in-Dot.is tree_of_dot
    (ap (λ (b : Bool). all_some (if b then stay (move_to (state c.args.spot) (c.args.spot.place + 1)) else [])) c.is_dot.ensures.value)

pub returns-in_ok-go_if-in-Class : goal.returns-in_ok-go_if-in-Class
unfolding runs
returns-in_ok-go_if-in-Class c =
    becomes_node c.args.flags c.args.text.now _ _ _ _ _ _ _ _ _ (state c.args.spot) c.in_ok-go_if-in-Class.ensures c.in-Class.is (tree_of_class c.in-Class.set)
    (ap (λ (b : Bool). all_some (if b then stay (move_to (state c.args.spot) (c.args.spot.place + 1)) else [])) c.is_class-fits.ensures.value)

pub returns-in_ok-go_where-in-LineStart : goal.returns-in_ok-go_where-in-LineStart
unfolding runs
returns-in_ok-go_where-in-LineStart c =
    becomes_node c.args.flags c.args.text.now _ _ _ _ _ _ _ _ _ (state c.args.spot) c.in_ok-go_where-in-LineStart.ensures c.in-LineStart.is tree_of_line_start
    (ap (λ (b : Bool). all_some (where_fits b (state c.args.spot))) c.at_line_start-fits.ensures)

pub returns-in_ok-go_where-in-LineEnd : goal.returns-in_ok-go_where-in-LineEnd
unfolding runs
returns-in_ok-go_where-in-LineEnd c =
    becomes_node c.args.flags c.args.text.now _ _ _ _ _ _ _ _ _ (state c.args.spot) c.in_ok-go_where-in-LineEnd.ensures c.in-LineEnd.is tree_of_line_end
    (ap (λ (b : Bool). all_some (where_fits b (state c.args.spot))) c.at_line_end-fits.ensures)

pub returns-in_ok-go_where-in-Word : goal.returns-in_ok-go_where-in-Word
unfolding runs
returns-in_ok-go_where-in-Word c =
    becomes_node c.args.flags c.args.text.now _ _ _ _ _ _ _ _ _ (state c.args.spot) c.in_ok-go_where-in-Word.ensures c.in-Word.is tree_of_word
    (ap (λ (b : Bool). all_some (where_fits b (state c.args.spot))) c.at_boundary.ensures)

pub returns-in_ok-go_where-in-NotWord : goal.returns-in_ok-go_where-in-NotWord
unfolding runs
returns-in_ok-go_where-in-NotWord c =
    becomes_node c.args.flags c.args.text.now _ _ _ _ _ _ _ _ _ (state c.args.spot) c.in_ok-go_where-in-NotWord.ensures c.in-NotWord.is tree_of_not_word
    (ap (λ (b : Bool). all_some (where_fits (not b) (state c.args.spot))) c.at_boundary-in-NotWord.ensures)

pub returns-in_ok-go_two-in-Group : goal.returns-in_ok-go_two-in-Group
unfolding runs
returns-in_ok-go_two-in-Group c =
    becomes_node c.args.flags c.args.text.now _ _ _ _ _ _ _ _ _ (state c.args.spot) c.in_ok-go_two-in-Group.ensures c.in-Group.is (tree_of_group c.in-Group.index c.in-Group.body)
    (ap (λ (n : Node). tick (and_then (λ (t : State). tick (Some (capture c.in-Group.index c.args.spot.place t) ∷ [])) (runs c.args.flags c.args.text.now (tree_of n) (state c.args.spot)))) c.get.ensures)

pub returns-in_ok-go_back-in-Back : goal.returns-in_ok-go_back-in-Back
unfolding runs
returns-in_ok-go_back-in-Back c =
    becomes_node c.args.flags c.args.text.now _ _ _ _ _ _ _ _ _ (state c.args.spot) c.in_ok-go_back-in-Back.ensures c.in-Back.is (tree_of_back c.in-Back.index)
    (refl)

pub returns-in_ok-go_look-in-Look : goal.returns-in_ok-go_look-in-Look
unfolding runs
returns-in_ok-go_look-in-Look c =
    becomes_seen c.args.flags c.args.text.now _ _ _ _ _ _ _ _ _ (state c.args.spot) c.in_ok-go_look-in-Look.ensures c.in-Look.is (tree_of_look c.in-Look.negative c.in-Look.body)
    (ap (λ (n : Node). looked c.in-Look.negative (state c.args.spot) (tick (runs c.args.flags c.args.text.now (tree_of n) (state c.args.spot)))) c.get-in-Look.ensures)

pub returns-in_ok-go_turns-in-Repeat : goal.returns-in_ok-go_turns-in-Repeat
unfolding runs
returns-in_ok-go_turns-in-Repeat c =
    becomes_node c.args.flags c.args.text.now _ _ _ _ _ _ _ _ _ (state c.args.spot) c.in_ok-go_turns-in-Repeat.ensures c.in-Repeat.is (tree_of_repeat c.in-Repeat.body c.in-Repeat.min c.in-Repeat.max c.in-Repeat.lazy c.in-Repeat.first c.in-Repeat.past)
    (ap (λ (n : Node). repeats (length c.args.text.now) (λ (u : State). runs c.args.flags c.args.text.now (tree_of n) (clear c.in-Repeat.first c.in-Repeat.past u)) c.in-Repeat.lazy c.in-Repeat.min c.in-Repeat.max (state c.args.spot)) c.get-in-Repeat.ensures)
