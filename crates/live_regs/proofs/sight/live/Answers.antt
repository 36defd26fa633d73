use Rattle.live_regs.proofs.Sweeping.{live_of_words, live_of_marks}
use Rattle.live_regs.proofs.sight.live.Goals as goal

pub returns-in-Some : goal.returns-in-Some
returns-in-Some c = live_of_words c.args.body.now (record { words = c.in-Some.words; marks = c.new-marks.result }) c.new-marks.ensures.items (rw c.in-Some.is at c.in_ok-words.ensures)

pub returns : goal.returns
returns c = live_of_marks c.args.body.now (record { words = c.new-words.result; marks = c.in_ok-marks.marks }) c.new-words.ensures.items c.in_ok-marks.ensures
