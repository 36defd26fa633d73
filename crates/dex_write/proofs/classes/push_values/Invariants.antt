use Rattle.std.proofs.Common.{◌≡◌, ◌++◌, take}
use Rattle.std.specs.Prelude.{slice_get}
use Rattle.std.specs.List.{flat_map}
use Rattle.dex_base.specs.Leb.{uleb_text}
use Rattle.dex_write.specs.Data.{first_text}
use Rattle.dex_write.proofs.classes.push_values.Given as goal

abbrev pub invariant-loop-field : goal.invariant-loop-field
invariant-loop-field l = l.out.items ≡ l.fn.out.items ++ uleb_text l.count ++ flat_map (λ f. first_text l.program l.numbers (slice_get l.class.fields f.1)) (take l.field-index l.firsts)
