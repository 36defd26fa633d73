-- The interface whose method with code a number names is a class of the program.
use Rattle.std.proofs.Common.{◌≡◌, ◌<◌, ℕ, true, false, true≢false, length, Option, Some, None, refl, sym, subst}
use Rattle.std.specs.Prelude.{◌&&◌, slice_get}
use Rattle.lemmas.proofs.Bools.{and_right}
use Rattle.lemmas.proofs.Lists.{got_short}
use Rattle.lemmas.proofs.Options.{none_some, some_same}
use Rattle.program_model.specs.declared.program.Class.{Class}
use Rattle.program_model.specs.declared.program.MethodAt.{MethodAt}
use Rattle.program_model.specs.declared.program.Program.{Program}
use Rattle.program_model.specs.Lookups.{method_at}
use Rattle.class_defs.specs.Finding.{resolves_method}
use Rattle.class_defs.specs.Members.{has_code, is_interface}
use Rattle.receivers.specs.Receiving.{interface_at}
use Rattle.devirt.specs.Binding.{default_at, default_of}
use Rattle.devirt.proofs.Bound.{cond_some, cond_true}

interface_low : (p : Program) (c : ℕ) → interface_at p c ≡ true → c < length p.classes
interface_low p c e = by (slice_get p.classes c) refl e
  where
    by : (o : Option Class) → slice_get p.classes c ≡ o → is_interface o ≡ true → c < length p.classes
    by None i f = absurd (true≢false (sym f))
    by (Some k) i f = got_short p.classes c k i

pub default_short : (p : Program) (method i : ℕ) → default_of p method ≡ Some i → i < length p.classes
default_short p method i e = by (resolves_method p method) e
  where
    by : (o : Option MethodAt) → default_at p o ≡ Some i → i < length p.classes
    by None f = none_some i f
    by (Some at) f =
        let same : at.class ≡ i = some_same at.class i (cond_some (has_code (method_at p at) && interface_at p at.class) (Some at.class) i f) in
        subst (λ c. c < length p.classes) same
        (interface_low p at.class (and_right (has_code (method_at p at)) (interface_at p at.class) (cond_true (has_code (method_at p at) && interface_at p at.class) (Some at.class) i f)))
