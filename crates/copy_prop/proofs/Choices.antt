-- Which copies an instruction is reread by.
use Rattle.std.proofs.Common.{◌≡◌, Bool, true, false, List, refl}
use Rattle.std.specs.Prelude.{if◌then◌else◌}
use Rattle.insn_set.specs.declared.form.Insn.{Insn}
use Rattle.copy_prop.specs.Rereading.{substitutes, fits, first_of, reread}
use Rattle.copy_prop.specs.declared.copied.Copied.{Copied}

pub all_together : (cs : List Copied) (f : Insn) → fits f (substitutes cs f) ≡ true → substitutes cs f ≡ reread cs f
all_together cs f e = rw e refl

pub first_alone : (cs : List Copied) (f : Insn) → fits f (substitutes cs f) ≡ false → substitutes (first_of cs) f ≡ reread cs f
first_alone cs f e = rw e refl
