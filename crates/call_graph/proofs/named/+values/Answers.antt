use Rattle.call_graph.proofs.Names.{note_adds}
use Rattle.call_graph.proofs.named.+values.Goals as goal

pub add_note-returns : goal.add_note-returns
add_note-returns t c = note_adds c.args.out.now.items c.push.new.self.items c.add_elements.new.out.items c.args.note.now c.as_slice.result.now c.in_ok-push.ensures.items c.as_slice.ensures c.in_ok-add_elements.ensures
