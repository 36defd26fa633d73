use Rattle.std.proofs.Common.{◌++◌, length, drop, refl, ap, ◌∙◌, append_assoc}
use Rattle.std.proofs.lemmas.List.{drop_at}
use Rattle.line_tables.specs.Text.{item_text}
use Rattle.line_tables.proofs.ReadBack.{item_is_read}
use Rattle.line_tables.proofs.laws.written_law.Goals as goal

pub returns : goal.returns
returns c = λ front lines starts rest parameters most alike ascends low lined few enough.
    let text = item_text lines starts parameters in
    let g = item_is_read (front ++ text ++ rest) lines starts rest (length front) parameters most alike ascends low lined few enough (ap (drop (length front)) (append_assoc front text rest) ∙ drop_at front (text ++ rest) (length front) refl) in
    (g.opcodes, g.few, g.is)
