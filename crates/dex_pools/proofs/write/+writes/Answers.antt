use Rattle.std.proofs.Common.{◌≡◌, ◌++◌, ◌∷◌, []}
use Rattle.dex_base.specs.Leb.{uleb_text}
use Rattle.program_model.specs.declared.value.Note.{out-Note}
use Rattle.dex_pools.specs.Written.{renumbered, value_text, element_text, note_text, list_text}
use Rattle.dex_pools.proofs.Texts.{array_text, annotation_text, note_text_is, element_text_is}
use Rattle.dex_pools.proofs.Appends.{ok_then, front_then, front_one}
use Rattle.dex_pools.proofs.write.+writes.Goals as goal

pub push_value-returns-in_ok-push-in-Array-clause-ok : goal.push_value-returns-in_ok-push-in-Array-clause-ok
push_value-returns-in_ok-push-in-Array-clause-ok t c =
    let text : value_text c.args.numbers.now c.args.value.now ≡ 28 ∷ list_text (value_text c.args.numbers.now) c.as_slice.result.now = rw (c.in-Array.is, c.as_slice.ensures) (array_text c.args.numbers.now c.in-Array.values) in
    ok_then c.push_values.result c.args.out.now.items c.push.new.self.items c.push_values.new.out.items (28 ∷ []) (list_text (value_text c.args.numbers.now) c.as_slice.result.now) (value_text c.args.numbers.now c.args.value.now)
    c.in_ok-push-in-Array.ensures.items text c.push_values.ensures.ok

pub push_value-returns-in_ok-push-in-Annotation-clause-ok : goal.push_value-returns-in_ok-push-in-Annotation-clause-ok
push_value-returns-in_ok-push-in-Annotation-clause-ok t c =
    let text : value_text c.args.numbers.now c.args.value.now ≡ 29 ∷ note_text c.args.numbers.now c.in-Annotation.note = rw c.in-Annotation.is (annotation_text c.args.numbers.now c.in-Annotation.note) in
    ok_then c.push_note.result c.args.out.now.items c.push-in-Annotation.new.self.items c.push_note.new.out.items (29 ∷ []) (note_text c.args.numbers.now c.in-Annotation.note) (value_text c.args.numbers.now c.args.value.now)
    c.in_ok-push-in-Annotation.ensures.items text c.push_note.ensures.ok

pub push_note-returns-clause-ok : goal.push_note-returns-clause-ok
push_note-returns-clause-ok t c =
    let text : note_text c.args.numbers.now c.args.note.now ≡ uleb_text (renumbered c.args.numbers.now.types.items (out-Note c.args.note.now).class) ++ list_text (element_text c.args.numbers.now) c.as_slice.result.now
    = rw c.as_slice.ensures (note_text_is c.args.numbers.now c.args.note.now) in
    let mid : c.write_uleb.new.out.items ≡ c.args.out.now.items ++ uleb_text (renumbered c.args.numbers.now.types.items (out-Note c.args.note.now).class) = cc (c.in_ok-write_uleb.ensures.ok, c.renumbered.ensures, c.deref.ensures.value) in
    ok_then c.push_elements.result c.args.out.now.items c.write_uleb.new.out.items c.push_elements.new.out.items (uleb_text (renumbered c.args.numbers.now.types.items (out-Note c.args.note.now).class))
    (list_text (element_text c.args.numbers.now) c.as_slice.result.now) (note_text c.args.numbers.now c.args.note.now) mid text c.push_elements.ensures.ok

pub push_note-returns-clause-front : goal.push_note-returns-clause-front
push_note-returns-clause-front t c =
    front_then c.args.out.now.items c.write_uleb.new.out.items c.push_elements.new.out.items c.push_elements.ensures.front (front_one c.args.out.now.items c.write_uleb.new.out.items (uleb_text c.renumbered.result) c.in_ok-write_uleb.ensures.ok)

pub push_element-returns-clause-ok : goal.push_element-returns-clause-ok
push_element-returns-clause-ok t c =
    let mid : c.write_uleb.new.out.items ≡ c.args.out.now.items ++ uleb_text (renumbered c.args.numbers.now.strings.items c.args.element.now.name) = cc (c.in_ok-write_uleb.ensures.ok, c.renumbered.ensures, c.deref.ensures.value) in
    ok_then c.push_value.result c.args.out.now.items c.write_uleb.new.out.items c.push_value.new.out.items (uleb_text (renumbered c.args.numbers.now.strings.items c.args.element.now.name))
    (value_text c.args.numbers.now c.args.element.now.value) (element_text c.args.numbers.now c.args.element.now) mid (element_text_is c.args.numbers.now c.args.element.now) c.push_value.ensures.ok

pub push_element-returns-clause-front : goal.push_element-returns-clause-front
push_element-returns-clause-front t c =
    front_then c.args.out.now.items c.write_uleb.new.out.items c.push_value.new.out.items c.push_value.ensures.front (front_one c.args.out.now.items c.write_uleb.new.out.items (uleb_text c.renumbered.result) c.in_ok-write_uleb.ensures.ok)
