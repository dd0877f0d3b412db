-- Assumes nothing.
use Rattle.sheet_lines.proofs.Feeding.{text_inside, prints_answer, prints_unreadable}
use Rattle.sheet_lines.proofs.sheet_line.Goals as goal

pub slice_bounds-answer_line-count : goal.slice_bounds-answer_line-count
slice_bounds-answer_line-count c = text_inside _ c.read_line.ensures c.in-Some.is

pub slice_bounds-answer_line-start : goal.slice_bounds-answer_line-start
slice_bounds-answer_line-start c = text_inside _ c.read_line.ensures c.in-Some.is

pub returns-in-Some : goal.returns-in-Some
returns-in-Some c = search prints_answer

pub returns-in-None : goal.returns-in-None
returns-in-None c = search prints_unreadable
