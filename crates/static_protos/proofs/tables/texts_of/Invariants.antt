use Rattle.std.proofs.Common.{◌≡◌, true, map, take}
use Rattle.program_model.specs.Distinct.{all_differ, text_key}
use Rattle.static_protos.proofs.tables.texts_of.Given as goal

abbrev pub invariant-loop-text : goal.invariant-loop-text
invariant-loop-text l = all_differ text_key l.strings ≡ true → map (λ v. v.items) l.texts.keys ≡ take l.text-index l.strings
